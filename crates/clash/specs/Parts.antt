-- What it means that statements clash.
use Rattle.std.specs.Prelude.{ℕ, ◌<◌, List, length}
use Rattle.statement.specs.declared.statements.Statement.{Statement}
use Rattle.statement.specs.Meaning.{CantHold, CanHold}
use Rattle.question.specs.Builds.{without}

-- no assignment over any finite domain meets them, and without any one of them some assignment does
pub record IsClash (E : ℕ) (ss : List Statement) : Type 0 where
  pub cant_hold : CantHold E ss
  pub none_spared : (i : ℕ) → i < length ss → CanHold E (without i 1 ss)
