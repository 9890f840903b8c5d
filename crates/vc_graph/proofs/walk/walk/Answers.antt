use Rattle.std.proofs.Common.{◌≡◌, ◌++◌, ap, ◌∙◌, Ok, Result, append_assoc, arith, take, length}
use Rattle.indexmap.specs.IndexSet.{insert_all}
use Rattle.std.proofs.Math.Seq.{take-append_seam}
use Rattle.std.proofs.lemmas.Iterator.Adapters.{fact_from_extend}
use Rattle.std.proofs.lemmas.Iterator.{YieldsList-from_slice}
use Rattle.std.proofs.lemmas.Grind.{common_steps}
use Rattle.std.specs.declared.alloc.AllocError.{AllocError}
use Rattle.vc_object_map.proofs.FaultLemmas.{IsMet-more}
use Rattle.vc_object_map.proofs.WalkLemmas.{Contains-from_slice_get, insert_all-prefix, Walks-start, walked, walked-followed}
use Rattle.vc_object_map.specs.Graph.{ReachedFrom}
use Rattle.vc_graph.specs.GraphFault.{IsTold}
use Rattle.vc_graph.specs.declared.fault.GraphFault.TheVariants.{Store}
use Rattle.vc_graph.proofs.WalkOnLemmas.{ReachedFrom-on, Walks-on}
use Rattle.vc_graph.proofs.walk.walk.Goals as goal
use Rattle.vc_object.proofs.IdLemmas.{id_eq-same}
use Rattle.vc_object.specs.ObjectMap.{links_in}
use Rattle.vc_object.specs.ObjectId.{id_eq}

pub returns-in-None-clause-reached : goal.returns-in-None-clause-reached
returns-in-None-clause-reached g c honest =
    let before = c.args.met.now.keys in
    let links = links_in (g.O.Objects.objects (g.O.Objects.state_of c.args.objects.now)) in
    let now = c.walk_on.new.met.keys in
    let added : c.extend.new.self.keys ≡ insert_all id_eq before c.args.roots.now =
    fact_from_extend (λ y. y.now) (let r : Result (Unit {0}) AllocError = Ok tt in r) c.in_ok-extend.ensures.ran (λ it b. YieldsList-from_slice _ b.0)
    (λ xs e h. h.0 ∙ ap (insert_all id_eq before) e) in
    let more = c.in_ok-walk_on.ensures.grown in
    let went = rw (c.len-place.ensures.len, c.in-None.is) at (c.in_ok-walk_on.ensures.went honest) in
    walked links (before ++ c.args.roots.now) now (length now) (Walks-on links links (λ x ys is. is) (before ++ c.args.roots.now) c.extend.new.self.keys (length before) (Walks-start links before c.args.roots.now id_eq id_eq-same c.extend.new.self.keys (c.requires honest) added) now more.0 (length now) more.1 went) (omega arith)

pub returns-in-None-clause-followed : goal.returns-in-None-clause-followed
returns-in-None-clause-followed g c honest =
    let before = c.args.met.now.keys in
    let links = links_in (g.O.Objects.objects (g.O.Objects.state_of c.args.objects.now)) in
    let now = c.walk_on.new.met.keys in
    let added : c.extend.new.self.keys ≡ insert_all id_eq before c.args.roots.now =
    fact_from_extend (λ y. y.now) (let r : Result (Unit {0}) AllocError = Ok tt in r) c.in_ok-extend.ensures.ran (λ it b. YieldsList-from_slice _ b.0)
    (λ xs e h. h.0 ∙ ap (insert_all id_eq before) e) in
    let more = c.in_ok-walk_on.ensures.grown in
    let went = rw (c.len-place.ensures.len, c.in-None.is) at (c.in_ok-walk_on.ensures.went honest) in
    walked-followed links (before ++ c.args.roots.now) now (length now) (Walks-on links links (λ x ys is. is) (before ++ c.args.roots.now) c.extend.new.self.keys (length before) (Walks-start links before c.args.roots.now id_eq id_eq-same c.extend.new.self.keys (c.requires honest) added) now more.0 (length now) more.1 went) (omega arith)

pub returns-in-None-clause-first : goal.returns-in-None-clause-first
returns-in-None-clause-first g c =
    let before = c.args.met.now.keys in
    let added : c.extend.new.self.keys ≡ insert_all id_eq before c.args.roots.now =
    fact_from_extend (λ y. y.now) (let r : Result (Unit {0}) AllocError = Ok tt in r) c.in_ok-extend.ensures.ran (λ it b. YieldsList-from_slice _ b.0)
    (λ xs e h. h.0 ∙ ap (insert_all id_eq before) e) in
    let prefix = insert_all-prefix id_eq before c.args.roots.now in
    let more = c.in_ok-walk_on.ensures.grown in
    let grown : c.walk_on.new.met.keys ≡ before ++ (prefix.0 ++ more.0) = more.1 ∙ ap (λ l. l ++ more.0) (added ∙ prefix.1) ∙ append_assoc before prefix.0 more.0 in
    ap (take (length before)) grown ∙ take-append_seam before (prefix.0 ++ more.0)

pub returns-in-Some-clause-refused : goal.returns-in-Some-clause-refused
returns-in-Some-clause-refused g c honest =
    let before = c.args.met.now.keys in
    let links = links_in (g.O.Objects.objects (g.O.Objects.state_of c.args.objects.now)) in
    let now = c.walk_on.new.met.keys in
    let added : c.extend.new.self.keys ≡ insert_all id_eq before c.args.roots.now =
    fact_from_extend (λ y. y.now) (let r : Result (Unit {0}) AllocError = Ok tt in r) c.in_ok-extend.ensures.ran (λ it b. YieldsList-from_slice _ b.0)
    (λ xs e h. h.0 ∙ ap (insert_all id_eq before) e) in
    let more = c.in_ok-walk_on.ensures.grown in
    let went = rw (c.len-place.ensures.len, c.in-Some.is) at (c.in_ok-walk_on.ensures.went honest) in
    let walk = Walks-on links links (λ x ys is. is) (before ++ c.args.roots.now) c.extend.new.self.keys (length before) (Walks-start links before c.args.roots.now id_eq id_eq-same c.extend.new.self.keys (c.requires honest) added) now more.0 c.in-Some.absent more.1 went.0 in
    (walk.reached c.index.result.now (Contains-from_slice_get _ _ _ c.index.ensures), went.1 c.index.result.now c.index.ensures)

pub returns-in_err-walk_on-clause-refused : goal.returns-in_err-walk_on-clause-refused
returns-in_err-walk_on-clause-refused g c =
    let before = c.args.met.now.keys in
    let objects = g.O.Objects.objects (g.O.Objects.state_of c.args.objects.now) in
    let damaged = g.O.Objects.damaged (g.O.Objects.state_of c.args.objects.now) in
    let added : c.extend.new.self.keys ≡ insert_all id_eq before c.args.roots.now =
    fact_from_extend (λ y. y.now) (let r : Result (Unit {0}) AllocError = Ok tt in r) c.in_ok-extend.ensures.ran (λ it b. YieldsList-from_slice _ b.0)
    (λ xs e h. h.0 ∙ ap (insert_all id_eq before) e) in
    let links = links_in objects in
    let roots = before ++ c.args.roots.now in
    let met = c.extend.new.self.keys in
    let e = c.in_err-walk_on.field-0.0 in
    let told : g.O.Objects.is_honest → IsTold objects damaged roots (Store e) = λ honest.
    IsMet-more (ReachedFrom links met) (ReachedFrom links roots) damaged
    (ReachedFrom-on links links (λ x ys is. is) roots met (length before) (Walks-start links before c.args.roots.now id_eq id_eq-same met (c.requires honest) added)) e (c.in_err-walk_on.ensures.refused honest) in
    grind (arith, common_steps, told)
