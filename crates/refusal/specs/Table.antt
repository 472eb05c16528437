-- 01, Refusal numbers, and 02, M-103, for 16 and 17, M-105 for 18 and 21, M-108 for 19 and M-109 for 20: the table, row by row. A place is up to three numbers; `none` is the table's "none".
use Rattle.std.specs.Prelude.{ℕ}
use Rattle.refusal.specs.declared.Gas.{Gas}
use Rattle.refusal.specs.declared.Gas.TheVariants.{HC, CO, NOx, CO2, NMHC}
use Rattle.refusal.specs.declared.Side.{Side}
use Rattle.refusal.specs.declared.Side.TheVariants.{Bag, Air}
use Rattle.refusal.specs.declared.Refusal.{Refusal}
use Rattle.refusal.specs.declared.Refusal.TheVariants.{Header, Count, Length, Second, Vehicle, Ratio, PowerToMass, Room, TooClose, Parts, Value, Reading, Dilution, Humidity, PairCounts, ReferenceMass, RotatingOrSpeed, LotSize, Efficiencies, Marked, LotRecord}
use Rattle.refusal.specs.declared.Place.{Place}
use Rattle.refusal.specs.declared.Entry.{Entry}

abbrev pub none : Place
none = record { at = 0; within = 0; side = 0 }

-- a second, a part, a gear, a field of the vehicle sheet or a record of a lot
abbrev pub at : ℕ → Place
at k = record { at = k; within = 0; side = 0 }

-- a field or a gas of a part
abbrev pub in_part : ℕ → ℕ → Place
in_part part k = record { at = part; within = k; side = 0 }

-- "gases go HC, CO, NOx, CO2"; 02, M-108: "a fifth gas", hydrocarbons without methane
abbrev pub gas_number : Gas → ℕ
gas_number HC = 1
gas_number CO = 2
gas_number NOx = 3
gas_number CO2 = 4
gas_number NMHC = 5

-- "bag before air"
abbrev pub side_number : Side → ℕ
side_number Bag = 1
side_number Air = 2

-- a gas of a part, in the bag or in the air
abbrev pub on_side : ℕ → ℕ → ℕ → Place
on_side part gas side = record { at = part; within = gas; side = side }

infix 5 ◌given◌
abbrev pub ◌given◌ : ℕ → Place → Entry
n given p = record { number = n; place = p }

-- the table
abbrev pub entry_of : Refusal → Entry
entry_of Header = 1 given none
entry_of Count = 2 given none
entry_of Length = 3 given none
entry_of (Second second) = 4 given at second
entry_of (Vehicle field) = 5 given at field
entry_of (Ratio gear) = 6 given at gear
entry_of PowerToMass = 7 given none
entry_of Room = 8 given none
entry_of (TooClose second) = 9 given at second
entry_of Parts = 10 given none
entry_of (Value part field) = 11 given in_part part field
entry_of (Reading part gas side) = 12 given on_side part gas side
entry_of (Dilution part) = 13 given at part
entry_of (Humidity part) = 14 given at part
entry_of PairCounts = 15 given none
entry_of ReferenceMass = 16 given none
entry_of RotatingOrSpeed = 17 given none
entry_of LotSize = 18 given none
entry_of Efficiencies = 19 given none
entry_of (Marked second) = 20 given at second
entry_of (LotRecord index) = 21 given at index

abbrev pub number_of : Refusal → ℕ
number_of r = (entry_of r).number

abbrev pub place_of : Refusal → Place
place_of r = (entry_of r).place
