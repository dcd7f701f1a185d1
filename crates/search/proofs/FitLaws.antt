-- Groups of terms with one term more are groups of terms; and where nothing fits into those of the classes placed, nothing is found.
use Prim.Native.Nat.{ℕ, suc, ◌+◌, ◌-◌, ◌^◌, ◌≤◌, ◌<◌, max}
use mathlib.Core.Path.{◌≡◌, sym, ap, subst, ◌∙◌}
use mathlib.Core.Bool.{false}
use mathlib.Core.List.{List}
use mathlib.Core.Logic.{◌⊎◌}
use mathlib.Core.Option.{none}
use native.Mathlib.Omega.{arith}
use native.Mathlib.Decide.{dec_lt, ℕ_discrete}
use native.Mathlib.Nat.{pow-suc}
use lib.Bits.{bit_or, or_lt}
use lib.Dec.{T, ltb, ltb→lt}
use lib.ListN.{length, get_or, take, set, length-set, get_or-eq_default}
use lib.Pow.{pow_mono, pow_pos}
use lib.Seq.{get_or-set_same, get_or-set_other}
use Rattle.question.specs.Limits.{max_terms}
use Rattle.question.specs.Masks.{bit}
use Rattle.statement.proofs.TestLaws.{and_right}
use Rattle.theory.specs.Sets.{fits}
use Rattle.mask.specs.Entries.{rows_of_entries}
use Rattle.cut.specs.Members.{members}
use Rattle.cut.specs.Asked.{before}
use Rattle.cut.specs.Standings.{NoneStands}
use Rattle.cut.proofs.AskedLaws.{before_next, before_past}
use Rattle.cut.proofs.PartLaws.{part_known, none_part}
use Rattle.cut.proofs.SetLaws.{set_tests}
use Rattle.cut.proofs.TriedLaws.{Tried, tried_stuck, tried_lacks, tried_alone, tried_new, neither}
use Rattle.cut.proofs.StandingLaws.{stand_known, none_found}
use Rattle.search.specs.Placings.{Placing, found}
use Rattle.search.specs.Groups.{group_count, AreGroups, with_term, GroupsOf}
use Rattle.search.specs.Tasks.{Task, IsSound}
use Rattle.search.specs.Memos.{mask_of_group, is_there}
use Rattle.search.specs.Fittings.{NoPart, NothingFits}
use Rattle.search.proofs.MemoLaws.{not_there}
use Rattle.search.proofs.PlacingLaws.{placed_length}

-- a term alone, and a group with one term more
pub alone_small : (t : ℕ) → t < max_terms → 2 ^ t < group_count
alone_small t room = omega (arith, pow-suc 2 t, pow_pos t, pow_mono {i = suc t} {j = max_terms} room)

pub joined_small : (group t : ℕ) → t < max_terms → group < group_count → bit_or group (2 ^ t) < group_count
joined_small group t room small = or_lt max_terms group (2 ^ t) small (alone_small t room)

-- one more of them is a group of terms
pub groups_set : (groups : List ℕ) → AreGroups groups → (c group : ℕ) → group < group_count → AreGroups (set groups c group)
groups_set groups are c group small = record { long = length-set groups c group ∙ are.long; small = λ k. go k (ℕ_discrete k c) (dec_lt c (length groups)) }
  where
    go : (k : ℕ) → Dec (k ≡ c) → Dec (c < length groups) → get_or (set groups c group) k 0 < group_count
    go k (yes e) (yes inside) = omega (arith, ap (λ i. get_or (set groups c group) i 0) e, get_or-set_same groups c group 0 inside)
    go k (yes e) (no past) = omega (arith, get_or-eq_default (set groups c group) 0 {n = k} (omega (arith, length-set groups c group)))
    go k (no ne) past = omega (arith, get_or-set_other groups c k group 0 ne, are.small k)

pub groups_joined : (groups : List ℕ) → AreGroups groups → (k t : ℕ) → t < max_terms → AreGroups (with_term groups k t)
groups_joined groups are k t room = groups_set groups are k (bit_or (get_or groups k 0) (2 ^ t)) (joined_small (get_or groups k 0) t room (are.small k))

module _ (task : Task) (t : ℕ) where
  -- a term that is not asked may be passed over
  module _ (lacks : bit task.asked t ≡ false) where
    pub part_past : (group : ℕ) → NoPart task (t + 1) group → NoPart task t group
    part_past group nothing l j long here = nothing l j long (part_known here (before task.asked (t + 1)) (λ d. before_past task.asked t d lacks))

    pub fits_past : (groups : List ℕ) (count : ℕ) → NothingFits task (t + 1) groups count → NothingFits task t groups count
    fits_past groups count nothing l at long here = nothing l at long (stand_known here (before task.asked (t + 1)) (λ d. before_past task.asked t d lacks))

-- what holds of a finder, said of the task that contracts see
pub sound_as : {before now : Task} {memo : List ℕ} → before ≡ now → IsSound before memo → IsSound now memo
sound_as {memo = memo} same sound = subst (λ t. IsSound t memo) same sound

pub terms_as : {before now : Task} → before ≡ now → before.terms ≡ now.terms
terms_as same = ap (λ (t : Task). t.terms) same

pub asked_as : {before now : Task} → before ≡ now → before.asked ≡ now.asked
asked_as same = ap (λ (t : Task). t.asked) same

-- a group that has no mask is a part of no class, where it has all asked terms of the class
pub no_part : {task : Task} {memo : List ℕ} → IsSound task memo → (group : ℕ) → is_there (mask_of_group task.entries task.sets group) ≡ false → NoPart task task.terms group
no_part {task} sound group lacks = none_part set_tests (2 ^ task.sets) (rows_of_entries task.entries) (before task.asked task.terms) group task.terms sound.asked_are (not_there (mask_of_group task.entries task.sets group) lacks)

-- nothing fits where one of the groups is a part of no class
pub lacking_cut : (task : Task) (groups : List ℕ) (count k : ℕ) → k < count → NoPart task task.terms (get_or groups k 0) → NothingFits task task.terms groups count
lacking_cut task groups count k lt lacks l at long here = lacks l (at k) long (here.part k lt)

-- a class of which the group is a part has the asked term t or has it not
pub part_neither : (task : Task) (t group own : ℕ) → own ≡ 2 ^ t → NoPart task (t + 1) group → NoPart task (t + 1) (bit_or group own) → NoPart task t group
part_neither task t group own is without with =
    neither fits (2 ^ task.sets) (rows_of_entries task.entries) (before task.asked t) (before task.asked (t + 1)) t (before_next task.asked t) group task.terms without
    (subst (λ n. NoPart task (t + 1) (bit_or group n)) is with)

-- the term t put into one group after another, which have the asked terms before i; with t they have those before j
module _ (task : Task) (groups : List ℕ) (count t i : ℕ) where
  -- with t in one of the first k groups nothing fits
  abbrev pub TriedTo : ℕ → Type 0
  TriedTo k = Tried fits (2 ^ task.sets) (rows_of_entries task.entries) (before task.asked i) groups count task.terms t k

  module _ (j : ℕ) (only : (d : ℕ) → T (before task.asked j d) → T (before task.asked i d) ⊎ (d ≡ t)) (k : ℕ) (tried : TriedTo k) where
    module _ (lt : k < count) (inside : k < length groups) where
      -- with t in the group k nothing fits
      pub group_stuck : {next : List ℕ} {more : ℕ} → next ≡ with_term groups k t → more ≡ max count (k + 1) → NothingFits task j next more → TriedTo (k + 1)
      group_stuck {next} is counted stuck = let same : max count (k + 1) ≡ count = omega arith in
          tried_stuck fits (2 ^ task.sets) (rows_of_entries task.entries) (before task.asked i) groups count task.terms t (before task.asked j) only k lt inside tried next is
          (subst (NothingFits task j next) (counted ∙ same) stuck)

      -- with t the group k is a part of no class
      pub group_lacks : {own : ℕ} → own ≡ 2 ^ t → NoPart task j (bit_or (get_or groups k 0) own) → TriedTo (k + 1)
      group_lacks is lacks =
          tried_lacks fits (2 ^ task.sets) (rows_of_entries task.entries) (before task.asked i) groups count task.terms t (before task.asked j) only k lt inside tried
          (subst (λ n. NoPart task j (bit_or (get_or groups k 0) n)) is lacks)

    module _ (all : count ≤ k) (few : t < task.terms) where
      -- alone it is a part of no class
      pub alone_lacks : {own : ℕ} → own ≡ 2 ^ t → NoPart task j own → NothingFits task i groups count
      alone_lacks is lacks =
          tried_alone fits (2 ^ task.sets) (rows_of_entries task.entries) (before task.asked i) groups count task.terms t (before task.asked j) only k all few tried (subst (NoPart task j) is lacks)

      -- with a new group for t nothing fits
      pub alone_stuck : count < length groups → {next : List ℕ} {more : ℕ} → next ≡ set groups count (2 ^ t) → more ≡ count + 1 → NothingFits task j next more → NothingFits task i groups count
      alone_stuck room {next} is counted stuck =
          tried_new fits (2 ^ task.sets) (rows_of_entries task.entries) (before task.asked i) groups count task.terms t (before task.asked j) only k all few tried room next is
          (subst (NothingFits task j next) counted stuck)

-- where nothing fits into the groups of the classes placed, nothing is found
pub unfit_cut : {arrangement groups : List ℕ} {placed count : ℕ} → Placing arrangement placed count → GroupsOf arrangement placed groups → (task : Task) → placed ≤ task.terms → NothingFits task placed groups count → found task arrangement placed ≡ none
unfit_cut {arrangement} {groups} {placed} {count} here of task within nothing =
    let all : length p + (task.terms - placed) ≡ task.terms = omega (arith, placed_length here) in
    none_found p groups count here.counted are (before task.asked placed) first fits (2 ^ task.sets) (rows_of_entries task.entries) (task.terms - placed)
    (subst (NoneStands fits (2 ^ task.sets) (rows_of_entries task.entries) (before task.asked placed) groups count) (sym all) nothing)
  where
    p : List ℕ
    p = take placed arrangement

    are : (k : ℕ) → k < count → get_or groups k 0 ≡ members p k
    are k lt = of.are k (omega (arith, here.few_classes, here.few_terms))

    first : (d : ℕ) → T (before task.asked placed d) → d < length p
    first d h = let lt = ltb→lt d placed (and_right (bit task.asked d) (ltb d placed) h) in omega (arith, placed_length here)
