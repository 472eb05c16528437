-- What was read of a test: each part of the class was. Assumes nothing.
use mathlib.Core.Path.{◌≡◌, refl}
use mathlib.Core.Bool.{Bool, true, false, cond, false≢true}
use Prim.Native.Nat.{ℕ}
use native.Mathlib.Omega.{arith}
use lib.Dec.{eqb}
use borrow.Author.Tests.{eq-eqb}
use Rattle.std.specs.Prelude.{Ok, Err, Result}
use Rattle.refusal.specs.declared.Refusal.{Refusal}
use Rattle.bag.specs.declared.BagSheet.{BagSheet}
use Rattle.bag.specs.declared.Part.{Part}
use Rattle.stage.proofs.UpTo.{exactly-up_to}
use Rattle.sides.specs.declared.Sides.{Sides}
use Rattle.sides.specs.declared.TestSides.{TestSides}
use Rattle.sides.specs.Gases.{nothing}
use Rattle.sides.specs.ReadIn.{read_part, read_third, on_part, read_in}
use Rattle.sides.specs.Ranges.{ReadingSizes}
use Rattle.sides.proofs.Readings.{Took}
use Rattle.sides.proofs.Each.{each_at}
use Rattle.sides.proofs.Sizes.{bag_sizes}

took-part : (p : Result Sides Refusal) (next : Sides → Result TestSides Refusal) {r : TestSides} → on_part p next ≡ Ok r → Took Ok p next (Ok r)
took-part (Ok sides) next e = record { held = sides; taken = refl; then = e }
took-part (Err refusal) next e = absurd (false≢true (cc))

pub record ReadParts (s : BagSheet) (r : TestSides) : Type 0 where
  pub first : read_part 1 s.first ≡ Ok r.first
  pub second : read_part 2 s.second ≡ Ok r.second
  pub third : read_third s.class s.third ≡ Ok r.third

pub read-parts : {s : BagSheet} {r : TestSides} → read_in s ≡ Ok r → ReadParts s r
unfolding read_in
read-parts {s} {r} e =
    let first = took-part (read_part 1 s.first) _ e in
    let second = took-part (read_part 2 s.second) _ first.then in
    let third = took-part (read_third s.class s.third) _ second.then in
    let taken-1 = first.taken in
    let taken-2 = second.taken in
    let taken-3 = third.taken in
    let all = third.then in
    record { first = cc; second = cc; third = cc }

-- the third part, where the class has it
pub third-read : (class : ℕ) (third : Part) {sides : Sides} →
    read_third class third ≡ Ok sides → class ≡ 3 → read_part 3 third ≡ Ok sides
unfolding read_third
third-read class third e c = rw (eq-eqb class 3 c) at e

pub third-bag-sizes : (class : ℕ) (third : Part) {sides : Sides} → read_third class third ≡ Ok sides → ReadingSizes sides.bag
unfolding read_third nothing
third-bag-sizes class third {sides} e = go (eqb class 3) e
  where
    go : (b : Bool) → cond b (read_part 3 third) (Ok (record { bag = nothing; air = nothing })) ≡ Ok sides →
        ReadingSizes sides.bag
    go true h = bag_sizes 3 third h
    go false h = let same : sides.bag ≡ nothing = cc in rw same (λ gas. rw (each_at gas) (exactly-up_to 0 (omega arith)))
