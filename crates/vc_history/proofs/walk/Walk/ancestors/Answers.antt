use Rattle.std.proofs.Common.{◌≡◌, [], ap, ◌∙◌, map, Ok, Result, refl, arith}
use Rattle.indexmap.specs.IndexSet.{insert_all}
use Rattle.std.proofs.lemmas.Iterator.Adapters.{fact_from_extend}
use Rattle.std.proofs.lemmas.Iterator.{YieldsList-from_slice}
use Rattle.std.specs.declared.alloc.AllocError.{AllocError}
use Rattle.vc_object_map.proofs.WalkLemmas.{Walks-start, Walks-step, IsFollowed-none, walked}
use Rattle.vc_object.proofs.IdLemmas.{id_eq-same}
use Rattle.vc_object.specs.ObjectId.{id_eq}
use Rattle.vc_history.specs.Walk.{graph_read, read_by}
use Rattle.vc_history.proofs.walk.Walk.ancestors.Goals as goal

pub loop-next-init : goal.loop-next-init
loop-next-init c =
    let added : c.extend.new.self.keys ≡ insert_all id_eq [] c.args.roots.now =
    fact_from_extend (λ y. y.now) (let r : Result (Unit {0}) AllocError = Ok tt in r) c.in_ok-extend.ensures.ran (λ it b. YieldsList-from_slice _ b.0)
    (λ xs e h. h.0 ∙ ap (λ l. insert_all id_eq l (map (λ y. y.now) xs)) c.new-found.ensures.empty ∙ ap (insert_all id_eq []) e) in
    Walks-start _ [] c.args.roots.now id_eq id_eq-same c.extend.new.self.keys (IsFollowed-none _ [] refl) added

pub loop-next-preserved : goal.loop-next-preserved
loop-next-preserved c =
    let met = c.args.self.now.met.keys in
    let read = read_by c.args.self.now in
    let added : c.extend-in-loop-next.new.self.keys ≡ insert_all id_eq c.loop-next.found.keys c.parents_of.result.now =
    fact_from_extend (λ y. y.now) (let r : Result (Unit {0}) AllocError = Ok tt in r) c.in_ok-extend-2.ensures.ran (λ it b. YieldsList-from_slice _ b.0)
    (λ xs e h. h.0 ∙ ap (insert_all id_eq c.loop-next.found.keys) e) in
    Walks-step (graph_read met read) _ id_eq id_eq-same c.loop-next.found.keys c.extend-in-loop-next.new.self.keys _ c.loop-next.next c.index.result.now c.loop-next.invariant c.index.ensures refl
    (added ∙ ap (insert_all id_eq c.loop-next.found.keys) c.parents_of.ensures)

pub returns : goal.returns
returns c id = walked _ _ c.loop-next.found.keys c.loop-next.next c.loop-next.invariant (omega (arith, c.len.ensures.len)) id
