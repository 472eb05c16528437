-- A part of a buffer, lent and back, and what stands behind it. Assumes nothing.
use mathlib.Core.Path.{◌≡◌, ap, ◌∙◌}
use mathlib.Core.List.{List, [], ◌++◌, append-nil}
use Prim.Native.Nat.{ℕ, ◌-◌}
use native.Mathlib.Omega.{arith}
use lib.ListN.{length, take, drop, length-drop, drop_of_length-le}
use lib.Seq.{take_all}

-- from a to the end
pub part-whole : (xs : List ℕ) (a : ℕ) → take (length xs - a) (drop a xs) ≡ drop a xs
part-whole xs a = take_all (length xs - a) (drop a xs) (simp length-drop (omega arith))

pub part-back : (xs ys : List ℕ) (a : ℕ) → take a xs ++ (ys ++ drop (length xs - a) (drop a xs)) ≡ take a xs ++ ys
part-back xs ys a =
    let none : drop (length xs - a) (drop a xs) ≡ [] = drop_of_length-le (drop a xs) {i = length xs - a} (simp length-drop (omega arith)) in
    ap (λ (l : List ℕ). take a xs ++ (ys ++ l)) none ∙ ap (λ (l : List ℕ). take a xs ++ l) (append-nil ys)

-- behind all of d stands nothing
pub exact : (p d : List ℕ) (m : ℕ) → length d ≡ m → p ++ drop m d ≡ p
exact p d m e =
    let none : drop m d ≡ [] = drop_of_length-le d {i = m} (omega arith) in
    ap (λ (l : List ℕ). p ++ l) none ∙ append-nil p
