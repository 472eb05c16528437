-- A file as it is written: a turn of the loop that stores its seconds, and what stands at each place of it. Assumes nothing.
use mathlib.Core.Path.{◌≡◌, refl, sym, ap, ◌∙◌}
use mathlib.Core.List.{List, ◌++◌, append_assoc}
use Prim.Native.Nat.{ℕ, zero, suc, ◌+◌, ◌*◌, ◌<◌}
use native.Mathlib.Decide.{dec_lt}
use native.Mathlib.Numerals.{add-one}
use native.Mathlib.Omega.{arith}
use lib.ListN.{length, get_or, drop, length-append, get_or-append}
use lib.Seq.{get_or-append-add}
use Rattle.walk.proofs.Walk.{four-stores}
use Rattle.house.specs.House.{version_of, count_of, speed_at, flags_at, zero_at}
use Rattle.house.specs.Written.{head_of, second_of, seconds_to, file_of, with_second}

module _ (speeds flags : ℕ → ℕ) where
  seconds-length : (n : ℕ) → length (seconds_to speeds flags n) ≡ 4 * n
  unfolding seconds_to
  seconds-length zero = refl
  seconds-length (suc n) =
      let h : length (seconds_to speeds flags n) ≡ 4 * n = seconds-length n in
      simp length-append (omega arith)

  -- k seconds behind a head
  stored-length : (head : List ℕ) (k : ℕ) → length head ≡ 8 → length (head ++ seconds_to speeds flags k) ≡ 4 * k + 8
  stored-length head k eight =
      let h : length (seconds_to speeds flags k) ≡ 4 * k = seconds-length k in
      simp length-append (omega arith)

  -- a turn of the loop: k seconds are stored, and the rest is what d has there
  pub second-next : (head : List ℕ) (k : ℕ) (d : List ℕ) {file : List ℕ} {speed flag : ℕ} → length head ≡ 8
      → file ≡ (head ++ seconds_to speeds flags k) ++ drop (4 * k + 8) d → speed ≡ speeds k → flag ≡ flags k → 4 * k + 11 < length d
      → with_second file k speed flag ≡ (head ++ seconds_to speeds flags (k + 1)) ++ drop (4 * (k + 1) + 8) d
  unfolding seconds_to
  second-next head k d eight e es ep room =
      let next : 4 * k + 8 + 4 ≡ 4 * (k + 1) + 8 = omega arith in
      (λ i. with_second (e i) k (es i) (ep i))
      ∙ four-stores (head ++ seconds_to speeds flags k) d (4 * k + 8) _ _ _ _ (stored-length head k eight) (omega arith)
      ∙ (λ i. append_assoc head (seconds_to speeds flags k) (second_of (speeds k) (flags k)) i ++ drop (next i) d)
      ∙ ap (λ (j : ℕ). (head ++ seconds_to speeds flags j) ++ drop (4 * (k + 1) + 8) d) (sym (add-one k))

  -- byte j of second k
  seconds-at : (n k j : ℕ) → k < n → j < 4 → get_or (seconds_to speeds flags n) (4 * k + j) 0 ≡ get_or (second_of (speeds k) (flags k)) j 0
  unfolding seconds_to
  seconds-at zero k j l few = absurd (omega arith)
  seconds-at (suc n) k j l few = go (dec_lt k n) (λ below. seconds-at n k j below few)
    where
      go : Dec (k < n) → (k < n → get_or (seconds_to speeds flags n) (4 * k + j) 0 ≡ get_or (second_of (speeds k) (flags k)) j 0)
          → get_or (seconds_to speeds flags n ++ second_of (speeds n) (flags n)) (4 * k + j) 0 ≡ get_or (second_of (speeds k) (flags k)) j 0
      go (yes below) earlier =
          let long = seconds-length n in
          get_or-append (seconds_to speeds flags n) (second_of (speeds n) (flags n)) 0 (4 * k + j) (omega (arith, long)) ∙ earlier below
      go (no above) earlier =
          let same : k ≡ n = omega arith in
          let place : 4 * k + j ≡ length (seconds_to speeds flags n) + j = let long = seconds-length n in omega (arith, long) in
          ap (λ (i : ℕ). get_or (seconds_to speeds flags n ++ second_of (speeds n) (flags n)) i 0) place
          ∙ get_or-append-add (seconds_to speeds flags n) (second_of (speeds n) (flags n)) j 0
          ∙ ap (λ (i : ℕ). get_or (second_of (speeds i) (flags i)) j 0) (sym same)

-- the same seconds
pub seconds-same : (speeds flags speeds' flags' : ℕ → ℕ) (n : ℕ) → ((k : ℕ) → k < n → speeds k ≡ speeds' k) → ((k : ℕ) → k < n → flags k ≡ flags' k)
    → seconds_to speeds flags n ≡ seconds_to speeds' flags' n
unfolding seconds_to
seconds-same speeds flags speeds' flags' zero s f = refl
seconds-same speeds flags speeds' flags' (suc n) s f =
    let before = seconds-same speeds flags speeds' flags' n (λ k l. s k (omega arith)) (λ k l. f k (omega arith)) in
    let speed = s n (omega arith) in
    let flag = f n (omega arith) in
    (λ i. before i ++ second_of (speed i) (flag i))

module _ (version : ℕ) (speeds flags : ℕ → ℕ) where
  pub file-length : (n : ℕ) → length (file_of version speeds flags n) ≡ 8 + 4 * n
  file-length n = let h = stored-length speeds flags (head_of version n) n refl in omega (arith, h)

  file-at : (n k j : ℕ) → k < n → j < 4 → get_or (file_of version speeds flags n) (4 * k + (8 + j)) 0 ≡ get_or (second_of (speeds k) (flags k)) j 0
  file-at n k j l few =
      let place : 4 * k + (8 + j) ≡ 8 + (4 * k + j) = omega arith in
      ap (λ (i : ℕ). get_or (file_of version speeds flags n) i 0) place
      ∙ get_or-append-add (head_of version n) (seconds_to speeds flags n) (4 * k + j) 0
      ∙ seconds-at speeds flags n k j l few

  -- ---- what a reader finds
  pub file-version : (n : ℕ) → version_of (file_of version speeds flags n) ≡ version
  file-version n = omega arith

  pub file-count : (n : ℕ) → count_of (file_of version speeds flags n) ≡ n
  file-count n = omega arith

  pub file-speed : (n k : ℕ) → k < n → speed_at (file_of version speeds flags n) k ≡ speeds k
  file-speed n k l =
      let low = file-at n k 0 l (omega arith) in
      let place : 4 * k + 8 + 1 ≡ 4 * k + (8 + 1) = omega arith in
      let high = ap (λ (i : ℕ). get_or (file_of version speeds flags n) i 0) place ∙ file-at n k 1 l (omega arith) in
      (λ i. low i + 256 * high i) ∙ omega arith

  pub file-flags : (n k : ℕ) → k < n → flags_at (file_of version speeds flags n) k ≡ flags k
  file-flags n k l = file-at n k 2 l (omega arith)

  pub file-zero : (n k : ℕ) → k < n → zero_at (file_of version speeds flags n) k ≡ 0
  file-zero n k l = file-at n k 3 l (omega arith)
