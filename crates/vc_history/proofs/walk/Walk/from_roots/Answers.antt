use Rattle.std.proofs.Common.{[], ap, ◌∙◌, map, Ok, Result}
use Rattle.indexmap.specs.IndexSet.{insert_all}
use Rattle.std.proofs.lemmas.Iterator.Adapters.{fact_from_extend}
use Rattle.std.proofs.lemmas.Iterator.{YieldsList-from_slice}
use Rattle.std.specs.declared.alloc.AllocError.{AllocError}
use Rattle.vc_object.specs.ObjectId.{id_eq}
use Rattle.vc_history.proofs.walk.Walk.from_roots.Goals as goal

pub returns-clause-met : goal.returns-clause-met
returns-clause-met c =
    fact_from_extend (λ y. y.now) (let r : Result (Unit {0}) AllocError = Ok tt in r) c.in_ok-extend.ensures.ran (λ it b. YieldsList-from_slice _ b.0)
    (λ xs e h. h.0 ∙ ap (λ l. insert_all id_eq l (map (λ y. y.now) xs)) c.new-met.ensures.empty ∙ ap (insert_all id_eq []) e)
