-- `smallest_mask` tries masks upward: each has its reasons, so no smaller one is of use. Its walk starts at an entry before which it meets all, and goes on as long as it meets the entry.
use Rattle.std.proofs.Common.{length, ◌-◌, ◌^◌, ◌<◌, ◌≤◌}
use Rattle.mask.specs.Entries.{rows_of_entries}
use Rattle.mask.specs.Notes.{NotesBefore}
use Rattle.mask.specs.Trials.{HasReasons}
use Rattle.mask.proofs.LeastLaws.{meets_all}
use Rattle.mask.proofs.WalkLaws.{MeetsBefore}
use Rattle.mask.proofs.masks.smallest_mask.Given as goal

abbrev pub invariant-entries : goal.invariant-entries
invariant-entries l = (l.i ≤ length l.entries) × MeetsBefore l.class l.entries l.m l.i

abbrev pub decreases-entries : goal.decreases-entries
decreases-entries l = length l.entries - l.i

abbrev pub invariant-masks : goal.invariant-masks
invariant-masks l = record {
  bits : l.m < 2 ^ l.bits;
  reasons : HasReasons (meets_all (rows_of_entries l.entries) l.class) l.why l.m;
  inside : l.i ≤ length l.entries;
  met : MeetsBefore l.class l.entries l.m l.i;
  notes : NotesBefore l.bits l.class l.entries l.notes.first l.notes.count;
}

abbrev pub decreases-masks : goal.decreases-masks
decreases-masks l = 2 ^ l.bits - l.m
