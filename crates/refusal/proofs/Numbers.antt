-- No refusal has the number 0, which says that all was accepted. Assumes nothing.
use mathlib.Core.Path.{◌≡◌, refl}
use mathlib.Core.Bool.{false}
use lib.Dec.{eqb}
use Rattle.refusal.specs.declared.Refusal.{Refusal}
use Rattle.refusal.specs.declared.Refusal.TheVariants.{Header, Count, Length, Second, Vehicle, Ratio, PowerToMass, Room, TooClose, Parts, Value, Reading, Dilution, Humidity, PairCounts, ReferenceMass, RotatingOrSpeed, LotSize, Efficiencies, Marked, LotRecord}
use Rattle.refusal.specs.Table.{number_of}

pub number-some : (refusal : Refusal) → eqb (number_of refusal) 0 ≡ false
number-some Header = refl
number-some Count = refl
number-some Length = refl
number-some (Second second) = refl
number-some (Vehicle field) = refl
number-some (Ratio gear) = refl
number-some PowerToMass = refl
number-some Room = refl
number-some (TooClose second) = refl
number-some Parts = refl
number-some (Value part field) = refl
number-some (Reading part gas side) = refl
number-some (Dilution part) = refl
number-some (Humidity part) = refl
number-some PairCounts = refl
number-some ReferenceMass = refl
number-some RotatingOrSpeed = refl
number-some LotSize = refl
number-some Efficiencies = refl
number-some (Marked second) = refl
number-some (LotRecord index) = refl
