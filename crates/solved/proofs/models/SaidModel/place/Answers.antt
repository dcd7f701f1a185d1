-- The class of the next term is stored, and where that starts a class the mask.
use Rattle.std.proofs.Common.{arith}
use Rattle.solved.specs.Said.{said_truth}
use Rattle.solved.proofs.PlacingLaws.{few_classes, place_started, place_joined}
use Rattle.solved.proofs.models.SaidModel.place.Goals as goal

pub bounds-self-used : goal.bounds-self-used
bounds-self-used c =
    let a = c.args in
    omega (arith, c.requires.0, few_classes a.said.now.terms a.said.now.sets (said_truth a.said.now) a.d c.requires.0 a.self.now c.requires.1)

pub overflow_add-self : goal.overflow_add-self
overflow_add-self c =
    let a = c.args in
    omega (arith, c.requires.0, few_classes a.said.now.terms a.said.now.sets (said_truth a.said.now) a.d c.requires.0 a.self.now c.requires.1)

pub returns-then-class-used : goal.returns-then-class-used
returns-then-class-used c =
    let a = c.args in
    place_started a.said.now.terms a.said.now.sets (said_truth a.said.now) a.d c.requires.0 a.self.now c.requires.1 c.class-class.ensures c.mask.ensures c.if-class-used.true

pub returns-else-class-used : goal.returns-else-class-used
returns-else-class-used c =
    let a = c.args in
    place_joined a.said.now.terms a.said.now.sets (said_truth a.said.now) a.d c.requires.0 a.self.now c.requires.1 c.class-class.ensures c.if-class-used.false
