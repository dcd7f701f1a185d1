-- The search that keeps reasons, over numbers to any base: where it starts, how the digits that decide are resolved, the next number, and that no smaller one is of use.
use Prim.Native.Nat.{ℕ, suc, ◌+◌, ◌^◌, ◌≤◌, ◌<◌}
use mathlib.Core.Path.{◌≡◌, sym, ap, subst, ◌∙◌}
use mathlib.Core.Bool.{Bool, true, false, true≢false}
use native.Mathlib.Omega.{arith}
use native.Mathlib.Decide.{dec_lt}
use Rattle.theory.proofs.DigitLaws.{digit}
use Rattle.mask.specs.Reasons.{Decided, Reasons, raised}
use Rattle.mask.proofs.RaisedLaws.{digit_lt, digit_of_zero, digit_past, first_differ, raised_below, raised_here, raised_above}

module _ (b : ℕ) (hb : 1 < b) (Fails : ℕ → Type 0) where
  -- 0 has no smaller digit anywhere, so it has its reasons whatever they are
  pub reasons_start : (why : ℕ → ℕ → Bool) → Reasons b Fails why 0
  reasons_start why q w a l = absurd (omega (arith, digit_of_zero b q))

  -- every smaller number fails, by the reason at the highest place where it differs
  pub reasons_below : (why : ℕ → ℕ → Bool) (m : ℕ) → Reasons b Fails why m → (w : ℕ) → w < m → Fails w
  reasons_below why m r w h = let d = first_differ b w m hb h in r d.at w (λ x l c. d.above x l) d.less

  -- the place q is not marked
  pub decided_pass : (q : ℕ) (c : ℕ → Bool) (m : ℕ) → c q ≡ false → Decided b Fails q c m → Decided b Fails (suc q) c m
  decided_pass q c m e g w a = g w (λ x l t. go x l t (dec_lt q x))
    where
      go : (x : ℕ) → q ≤ x → c x ≡ true → Dec (q < x) → digit b m x ≡ digit b w x
      go x l t (yes h) = a x h t
      go x l t (no h) = let i : x ≡ q = omega arith in absurd (true≢false (sym t ∙ ap c i ∙ e))

  -- m's digit at q is the largest: the places above q that are marked, with those of the reason at q, decide as well
  pub decided_resolve : (q : ℕ) (c d : ℕ → Bool) (why : ℕ → ℕ → Bool) (m : ℕ) → digit b m q + 1 ≡ b → Decided b Fails q c m → Reasons b Fails why m →
      ((x : ℕ) → c x ≡ true → d x ≡ true) → ((x : ℕ) → why q x ≡ true → d x ≡ true) → Decided b Fails (suc q) d m
  decided_resolve q c d why m largest g r hc hw w a = go (dec_lt (digit b w q) (digit b m q))
    where
      here : (x : ℕ) → q ≤ x → c x ≡ true → digit b m q ≡ digit b w q → Dec (q < x) → digit b m x ≡ digit b w x
      here x l t e (yes h) = a x h (hc x t)
      here x l t e (no h) = let i : x ≡ q = omega arith in rw i e

      go : Dec (digit b w q < digit b m q) → Fails w
      go (yes h) = r q w (λ x l t. a x l (hw x t)) h
      go (no h) = let e : digit b m q ≡ digit b w q = omega (arith, digit_lt b w q (omega arith)) in g w (λ x l t. here x l t e (dec_lt q x))

  -- m's digit at q can rise: the next number, with what decided as the reason at q, behind the reason that stood there
  pub reasons_next : (q : ℕ) (c : ℕ → Bool) (why new : ℕ → ℕ → Bool) (m : ℕ) → digit b m q + 1 < b → Decided b Fails q c m → Reasons b Fails why m →
      ((x : ℕ) → c x ≡ true → new q x ≡ true) → (0 < digit b m q → (x : ℕ) → why q x ≡ true → new q x ≡ true) →
      ((p : ℕ) → q < p → (x : ℕ) → why p x ≡ true → new p x ≡ true) → Reasons b Fails new (raised b q m)
  reasons_next q c why new m room g r hc hw hk p w a l = go (dec_lt p q) (dec_lt q p)
    where
      above : (x : ℕ) → q < x → digit b (raised b q m) x ≡ digit b m x
      above = raised_above b q m hb room

      same : (x : ℕ) → q ≤ x → c x ≡ true → p ≡ q → digit b m q ≡ digit b w q → Dec (q < x) → digit b m x ≡ digit b w x
      same x lo t i e (yes h) = sym (above x h) ∙ a x (omega arith) (subst (λ z. new z x ≡ true) (sym i) (hc x t))
      same x lo t i e (no h) = let j : x ≡ q = omega arith in rw j e

      here : p ≡ q → digit b w q < digit b (raised b q m) q → Dec (digit b w q < digit b m q) → Fails w
      here i k (yes h) = r q w (λ x lo t. sym (above x lo) ∙ a x (omega arith) (subst (λ z. new z x ≡ true) (sym i) (hw (omega arith) x t))) h
      here i k (no h) = let e : digit b m q ≡ digit b w q = omega (arith, raised_here b q m hb room) in g w (λ x lo t. same x lo t i e (dec_lt q x))

      go : Dec (p < q) → Dec (q < p) → Fails w
      go (yes h) k = absurd (omega (arith, raised_below b q m hb room p h))
      go (no h) (yes k) = r p w (λ x lo t. sym (above x (omega arith)) ∙ a x lo (hk p k x t)) (subst (λ d. digit b w p < d) (above p k) l)
      go (no h) (no k) = let i : p ≡ q = omega arith in here i (subst (λ z. digit b w z < digit b (raised b q m) z) i l) (dec_lt (digit b w q) (digit b m q))

  -- no place is left: every number of s digits fails
  pub decided_over : (s q : ℕ) (c : ℕ → Bool) (m : ℕ) → s ≤ q → m < b ^ s → Decided b Fails q c m → (w : ℕ) → w < b ^ s → Fails w
  decided_over s q c m h lm g w lw = g w (λ x l t. digit_past b m s x (omega arith) lm (omega arith) ∙ sym (digit_past b w s x (omega arith) lw (omega arith)))
