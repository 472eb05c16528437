-- Which seconds are on a list of those for which something holds, and that it rises. Assumes nothing.
use mathlib.Core.Path.{◌≡◌, refl, sym, ap, subst, ◌∙◌}
use mathlib.Core.Bool.{Bool, true, false, cond, false≢true}
use mathlib.Core.List.{List, [], ◌∷◌, ◌++◌}
use Prim.Native.Nat.{ℕ, zero, suc, ◌+◌, ◌<◌}
use native.Mathlib.Decide.{dec_lt}
use native.Mathlib.Omega.{arith}
use lib.ListN.{length, get_or, length-append, get_or-append}
use lib.Seq.{get_or_at}
use Rattle.draft.specs.Draft.{seconds_where}
use Rattle.draft.specs.Statements.{On, Rising}

-- one more at the end
module _ (list : List ℕ) (last : ℕ) where
  abbrev longer : List ℕ
  longer = list ++ (last ∷ [])

  longer-length : length longer ≡ length list + 1
  longer-length = length-append list (last ∷ [])

  longer-front : (i : ℕ) → i < length list → get_or longer i 0 ≡ get_or list i 0
  longer-front i l = get_or-append list (last ∷ []) 0 i l

  longer-last : get_or longer (length list) 0 ≡ last
  longer-last = get_or_at list last [] 0 (length list) refl

  on-front : {s : ℕ} → On list s → On longer s
  on-front o =
      let long = longer-length in
      let within = o.within in
      record { place = o.place; within = omega (arith, long, within); is = longer-front o.place within ∙ o.is }

  on-last : On longer last
  on-last = let long = longer-length in record { place = length list; within = omega (arith, long); is = longer-last }

  -- what is on it was on it, or is the last
  on-longer : {s : ℕ} {P : Type 0} → (On list s → P) → (s ≡ last → P) → On longer s → P
  on-longer {s} {P} front end o = go (dec_lt o.place (length list))
    where
      go : Dec (o.place < length list) → P
      go (yes l) = front (record { place = o.place; within = l; is = sym (longer-front o.place l) ∙ o.is })
      go (no past) =
          let long = longer-length in
          let within = o.within in
          let place : o.place ≡ length list = omega (arith, long, within) in
          end (sym o.is ∙ ap (λ (i : ℕ). get_or longer i 0) place ∙ longer-last)

pub on_none : {s : ℕ} → On [] s → ⊥
on_none o = let within = o.within in omega (arith, within)

module _ (holds : ℕ → Bool) where
  -- ---- what is on the list is one of the first n seconds, and it holds there
  pub record Held (n s : ℕ) : Type 0 where
    pub second : ℕ
    pub is : s ≡ suc second
    pub within : second < n
    pub so : holds second ≡ true

  later : {n s : ℕ} → Held n s → Held (suc n) s
  later h = let within = h.within in record { second = h.second; is = h.is; within = omega (arith, within); so = h.so }

  pub on-held : (n : ℕ) {s : ℕ} → On (seconds_where holds n) s → Held n s
  unfolding seconds_where
  on-held zero o = absurd (on_none o)
  on-held (suc n) {s} o = go (holds n) refl o (λ o. on-held n o)
    where
      go : (b : Bool) → holds n ≡ b → On (cond b (seconds_where holds n ++ (suc n ∷ [])) (seconds_where holds n)) s → (On (seconds_where holds n) s → Held n s) → Held (suc n) s
      go true so o before =
          on-longer (seconds_where holds n) (suc n) (λ o. later (before o)) (λ is. record { second = n; is = is; within = omega arith; so = so }) o
      go false so o before = later (before o)

  -- ---- and the other way round
  pub held_on : (n k : ℕ) → k < n → holds k ≡ true → On (seconds_where holds n) (suc k)
  unfolding seconds_where
  held_on zero k l so = absurd (omega arith)
  held_on (suc n) k l so = go (holds n) refl (dec_lt k n) (λ l. held_on n k l so)
    where
      go : (b : Bool) → holds n ≡ b → Dec (k < n) → (k < n → On (seconds_where holds n) (suc k)) → On (cond b (seconds_where holds n ++ (suc n ∷ [])) (seconds_where holds n)) (suc k)
      go true is (yes l) before = on-front (seconds_where holds n) (suc n) (before l)
      go true is (no last) before =
          let same : n ≡ k = omega arith in
          subst (λ (j : ℕ). On (seconds_where holds n ++ (suc n ∷ [])) (suc j)) same (on-last (seconds_where holds n) (suc n))
      go false is (yes l) before = before l
      go false is (no last) before =
          let same : k ≡ n = omega arith in
          absurd (false≢true (sym is ∙ sym (ap holds same) ∙ so))

  -- ---- it rises
  pub rises : (n : ℕ) → Rising (seconds_where holds n)
  unfolding seconds_where
  rises zero i j l within = absurd (omega arith)
  rises (suc n) i j l within = go (holds n) within (rises n)
    where
      go : (b : Bool) → j < length (cond b (seconds_where holds n ++ (suc n ∷ [])) (seconds_where holds n)) → Rising (seconds_where holds n)
          → get_or (cond b (seconds_where holds n ++ (suc n ∷ [])) (seconds_where holds n)) i 0 < get_or (cond b (seconds_where holds n ++ (suc n ∷ [])) (seconds_where holds n)) j 0
      go false within before = before i j l within
      go true within before = end (dec_lt j (length (seconds_where holds n)))
        where
          list : List ℕ
          list = seconds_where holds n

          end : Dec (j < length list) → get_or (list ++ (suc n ∷ [])) i 0 < get_or (list ++ (suc n ∷ [])) j 0
          end (yes inner) =
              let low = longer-front list (suc n) i (omega arith) in
              let high = longer-front list (suc n) j inner in
              let less = before i j l inner in
              omega (arith, low, high, less)
          end (no last) =
              let long = longer-length list (suc n) in
              let place : j ≡ length list = omega (arith, long, within) in
              let early : i < length list = omega (arith, place, l) in
              let low = longer-front list (suc n) i early in
              let high = ap (λ (j : ℕ). get_or (list ++ (suc n ∷ [])) j 0) place ∙ longer-last list (suc n) in
              let held = on-held n (record { place = i; within = early; is = refl }) in
              omega (arith, low, high, held.is, held.within)

-- ---- lists of the same
pub where-same : (holds holds' : ℕ → Bool) (n : ℕ) → ((k : ℕ) → k < n → holds k ≡ holds' k) → seconds_where holds n ≡ seconds_where holds' n
unfolding seconds_where
where-same holds holds' zero same = refl
where-same holds holds' (suc n) same =
    let before = where-same holds holds' n (λ k l. same k (omega arith)) in
    let here = same n (omega arith) in
    (λ i. cond (here i) (before i ++ (suc n ∷ [])) (before i))

pub where-nowhere : (holds : ℕ → Bool) (n : ℕ) → ((k : ℕ) → k < n → holds k ≡ false) → seconds_where holds n ≡ []
unfolding seconds_where
where-nowhere holds zero none = refl
where-nowhere holds (suc n) none =
    ap (λ (b : Bool). cond b (seconds_where holds n ++ (suc n ∷ [])) (seconds_where holds n)) (none n (omega arith)) ∙ where-nowhere holds n (λ k l. none k (omega arith))
