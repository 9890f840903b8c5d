use Rattle.std.proofs.Common.{◌≡◌, ◌++◌, ◌-◌, ◌^◌, List, ℕ}
use Rattle.indexmap.specs.IndexMap.{get}
use Rattle.vc_object.specs.ObjectId.{id_eq}
use Rattle.vc_object.specs.declared.id.ObjectId.{ObjectId as Id}
use Rattle.vc_history.proofs.NumberingLemmas.{Goes}
use Rattle.vc_history.specs.Walk.{read_by}
use Rattle.vc_history.specs.Numbering.{places, queues}
use Rattle.vc_history.proofs.numbering.number_history.Given as goal

abbrev pub invariant-loop-next : goal.invariant-loop-next
invariant-loop-next l = record {
  goes : Goes l.walk.met.keys (read_by l.walk) (get id_eq l.initial.known) (get id_eq l.known) (queues l.waiting.items) (places l.looks) l.next;
  front : (more : List (Id × ℕ)) × (l.known.entries ≡ l.initial.known.entries ++ more);
}

abbrev pub decreases-loop-next : goal.decreases-loop-next
decreases-loop-next l = 2 ^ 63 - l.next
