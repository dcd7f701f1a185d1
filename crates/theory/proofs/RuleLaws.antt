-- Rows and rules: which rows a rule gives, and what they name.
use Prim.Native.Nat.{ℕ, zero, suc, ◌+◌, ◌*◌, ◌≤◌, ◌<◌}
use mathlib.Core.Path.{◌≡◌, refl, ap}
use mathlib.Core.List.{List, [], ◌∷◌, map}
use native.Mathlib.Omega.{arith}
use native.Mathlib.Decide.{dec_le}
use lib.ListN.{length, length-append, length-map}
use Rattle.theory.specs.Lists.{Every}
use Rattle.theory.specs.Rules.{Row, Rule, OneTerm, EachTerm, OwnWitness, upward, row, own_witness, rows_of_rule, rows_of_rules}
use Rattle.theory.proofs.ListLaws.{every_append}

pub upward_length : (n c : ℕ) → length (upward n c) ≡ n
upward_length zero c = refl
upward_length (suc n) c = ap suc (upward_length n (suc c))

module _ {Test : Type 0} where
  -- rows about terms that there are
  abbrev pub TermsBelow : ℕ → List (Row Test) → Type 0
  TermsBelow terms rows = Every (λ r. r.term < terms) rows

  module _ (P : Row Test → Type 0) where
    -- the rows of one test for the terms from c on
    pub terms_at : (t : Test) (n c : ℕ) → Every P (map (λ d. row d t) (upward n c)) → (d : ℕ) → c ≤ d → d < c + n → P (row d t)
    terms_at t zero c h d low high = absurd (omega arith)
    terms_at t (suc n) c h d low high = go (dec_le d c) (terms_at t n (suc c) h.1 d)
      where
        go : Dec (d ≤ c) → (suc c ≤ d → d < suc c + n → P (row d t)) → P (row d t)
        go (yes q) later = let e : d ≡ c = omega arith in rw e h.0
        go (no q) later = later (omega arith) (omega arith)

    pub terms_of_lem : (t : Test) (n c : ℕ) → ((d : ℕ) → c ≤ d → d < c + n → P (row d t)) → Every P (map (λ d. row d t) (upward n c))
    terms_of_lem t zero c h = tt
    terms_of_lem t (suc n) c h = (h c (omega arith) (omega arith), terms_of_lem t n (suc c) (λ d low high. h d (omega arith) (omega arith)))

  -- how many witnesses the rules have
  abbrev pub own_witnesses : List (Rule Test) → ℕ
  own_witnesses [] = 0
  own_witnesses (r ∷ rs) = own_witness r + own_witnesses rs

  -- a rule gives one row, or one for each term
  pub rule_few : (most terms w : ℕ) (r : Rule Test) → 1 ≤ most → terms ≤ most → length (rows_of_rule terms w r) ≤ most
  rule_few most terms w (OneTerm a t) one h = one
  rule_few most terms w (EachTerm t) one h = omega (arith, length-map (upward terms 0) (λ c. row c t), upward_length terms 0)
  rule_few most terms w (OwnWitness t) one h = one

  pub rules_few : (most terms w : ℕ) (rs : List (Rule Test)) → 1 ≤ most → terms ≤ most → length (rows_of_rules terms w rs) ≤ length rs * most
  rules_few most terms w [] one h = omega arith
  rules_few most terms w (r ∷ rs) one h = omega (arith, length-append (rows_of_rule terms w r) (rows_of_rules terms (w + own_witness r) rs), rule_few most terms w r one h, rules_few most terms (w + own_witness r) rs one h)

-- `Named t`: the test t names only names below E
module _ {Test : Type 0} (E : ℕ) (Named : Test → Type 0) where
  abbrev pub RuleNamed : Rule Test → Type 0
  RuleNamed (OneTerm a t) = (a < E) × Named t
  RuleNamed (EachTerm t) = Named t
  RuleNamed (OwnWitness t) = Named t

  abbrev pub RulesNamed : List (Rule Test) → Type 0
  RulesNamed rs = Every RuleNamed rs

  -- such a row has a term that there is
  abbrev pub RowNamed : ℕ → Row Test → Type 0
  RowNamed terms r = (r.term < terms) × Named r.test

  rule_rows_named : (terms w : ℕ) (r : Rule Test) → RuleNamed r → E ≤ terms → w + own_witness r ≤ terms → Every (RowNamed terms) (rows_of_rule terms w r)
  rule_rows_named terms w (OneTerm a t) nm e h = ((omega (arith, nm.0), nm.1), tt)
  rule_rows_named terms w (EachTerm t) nm e h = terms_of_lem (RowNamed terms) t terms 0 (λ c low high. (omega arith, nm))
  rule_rows_named terms w (OwnWitness t) nm e h = ((omega arith, nm), tt)

  pub rows_named : (terms w : ℕ) (rs : List (Rule Test)) → RulesNamed rs → E ≤ terms → w + own_witnesses rs ≤ terms → Every (RowNamed terms) (rows_of_rules terms w rs)
  rows_named terms w [] nm e h = tt
  rows_named terms w (r ∷ rs) nm e h = every_append (RowNamed terms) (rows_of_rule terms w r) (rows_of_rules terms (w + own_witness r) rs)
      (rule_rows_named terms w r nm.0 e (omega arith)) (rows_named terms (w + own_witness r) rs nm.1 e (omega arith))
