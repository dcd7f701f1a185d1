-- `begin_full` goes by whether what remains without the first statement is impossible.
use Rattle.std.proofs.Common.{sym, ap, ◌∙◌, Ok}
use Rattle.question.proofs.AcceptedLaws.{accepted}
use Rattle.clash.specs.Clashes.{without_model}
use Rattle.clash.proofs.DecidedLaws.{is_impossible}
use Rattle.clash.proofs.StartLaws.{start_needed, start_spared, spared_decided}
use Rattle.clash.proofs.starts.begin_full.Goals as goal

pub returns-then-is_impossible : goal.returns-then-is_impossible
returns-then-is_impossible c =
    let q = c.args.q in
    let is = (accepted q).0 c.requires.0 in
    let spared = ap without_model (sym c.drop_statements-rest.ensures) ∙ sym c.is_impossible.ensures ∙ c.if-is_impossible.true in
    (spared_decided q is c.requires.1 spared ∙ ap Ok (sym c.impossible.ensures), λ v. start_spared q is c.requires.1 spared)

pub returns : goal.returns
returns c =
    let q = c.args.q in
    let d = sym c.decide.ensures ∙ c.in_ok-decide.was in
    let needed = ap without_model (sym c.drop_statements-rest.ensures) ∙ sym c.is_impossible.ensures ∙ c.if-is_impossible.false in
    (d, λ v. let i = is_impossible q _ d v in start_needed q i.0 i.1 c.requires.1 needed)
