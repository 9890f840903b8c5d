-- Only the file, the tree and the commit occur in the run.
use Rattle.std.proofs.Common.{false, ◌≡◌, ℕ, List, [], ◌∷◌, Some, None, Result, Ok, Err, inl, inr, sym, ap, ◌∙◌, subst, nat_cmp}
use Rattle.std.specs.FinMap.{get, empty, nat_cmp-IsAntisymmetric}
use Rattle.std.specs.Cmp.{nat_cmp_total}
use Rattle.std.specs.Cmp.Lexicographic.{slice_cmp}
use Rattle.vc_model.specs.Object.{Id, Object, Format, Objects}
use Rattle.vc_model.specs.Refs.{branch}
use Rattle.vc_model.specs.Repository.{Repository}
use Rattle.vc_model.specs.Message.{HasObject}
use Rattle.vc_model.specs.Message.Message.{ListRefs}
use Rattle.vc_model.specs.Node.Answer.{Did, Fault}
use Rattle.vc_model.specs.Node.Failure.{Device}
use Rattle.vc_model.specs.Node.Reply.{Removed, Stored, Sends, Opened, Passed, MigratedAll, Updated}
use Rattle.vc_model.specs.Push.{Slots}
use Rattle.vc_model.specs.Clone.{CloneNode, Task, PushItem}
use Rattle.vc_model.specs.Clone.Awaited.{Nothing, AnAdvert, APack}
use Rattle.vc_model.specs.Clone.Task.{Stage, MakeCommit, StartPush, StartFetch}
use Rattle.vc_model.specs.CloneCall.{Makes, new_commit}
use Rattle.vc_model.specs.Order.{task_by}
use Rattle.vc_model.specs.Order.Order.{StageFile, CommitIndex}
use Rattle.vc_model.specs.World.{empty_repository}
use Rattle.vc_model.specs.Wire.{Wire}
use Rattle.vc_model.specs.ExactWorld.{BringsExactly, OccursExactly, NoExactCollision}
use Rattle.vc_model.specs.ExactWorld.WorldEvent.{Orders}
use Rattle.vc_model.proofs.Maps.{insert_same, none_in_empty}
use Rattle.vc_runs.specs.Names.{plain_file}
use Rattle.vc_runs.specs.Witness.{main}
use Rattle.vc_runs.proofs.Stores.{Facts, Setting}
use Rattle.vc_runs.proofs.Stores as stores
use Rattle.vc_runs.proofs.Steps.{clone, up}
use Rattle.vc_runs.proofs.Steps as steps
use Rattle.vc_runs.proofs.Worlds.{Start}
use Rattle.vc_runs.proofs.Worlds as worlds
use Rattle.vc_runs.proofs.Occurs.{AllOnly, SlotsOnly, SharedOnly, WorldOnly, EachOnly, each_only, clone_only, shared_only, none_open, one_open, less_open, is_open, sends_nothing, sends_one}

module _ (here : Setting) where
  abbrev fmt : Format
  fmt = here.fmt

  abbrev wire : Wire fmt
  wire = here.wire

  abbrev f : Facts fmt wire here.path here.content here.tree here.commit here.author here.message
  f = here.facts

  abbrev t : Id
  t = fmt.name_of here.tree

  abbrev x : Id
  x = fmt.name_of here.commit

  abbrev Only : Object → Type 0
  Only o = stores.IsAny here o

  abbrev trees : Objects
  trees = stores.trees here

  abbrev all : Objects
  all = stores.all here

  abbrev staging : Repository
  staging = steps.staging here

  abbrev on_main : Repository
  on_main = steps.on_main here

  abbrev served : Repository
  served = steps.served here

  -- ---- what orders make

  stage_makes : (o : Object) → Makes fmt wire.rules empty_repository (Stage here.path plain_file here.content) o → Only o
  stage_makes o m = inl (sym m)

  commit_makes : (o : Object) → Makes fmt wire.rules staging (MakeCommit [] here.author here.author here.message) o → Only o
  commit_makes o m = elim (m.2) [
    | inl has ↦ (let there = subst (λ (s : Objects). HasObject s o) (ap (λ (p : Objects × Id). p.0) same) has in stores.trees_any here there.0 o there.1)
    | inr is ↦ inr (inr (sym is ∙ (ap (λ (p : Objects × Id). new_commit fmt staging p.1 [] here.author here.author here.message) same ∙ sym (steps.is_new here))))
  ]
    where
      same : m.0 ≡ (trees, t)
      same = let ok : ◌≡◌ {A = Result (Objects × Id) ℕ} (Ok m.0) (Ok (trees, t)) = wire.rules.one_root staging.index (Ok m.0) (Ok (trees, t)) m.1 f.trees in cc

  push_makes : (w : Result (List PushItem) ℕ) (r : Repository) (task : Task) (o : Object) → Ok task ≡ task_by (StartPush false) w → Makes fmt wire.rules r task o → ⊥
  push_makes (Ok is) r task o e m = let same : task ≡ StartPush false is = cc in subst (λ (z : Task). Makes fmt wire.rules r z o) same m
  push_makes (Err n) r task o e m = absurd (cc)

  fetch_makes : (r : Repository) (task : Task) (o : Object) → ◌≡◌ {A = Result Task ℕ} (Ok task) (Ok StartFetch) → Makes fmt wire.rules r task o → ⊥
  fetch_makes r task o e m = let same : task ≡ StartFetch = cc in subst (λ (z : Task). Makes fmt wire.rules r z o) same m

  -- ---- the worlds

  in_all : AllOnly Only all
  in_all = stores.all_any here

  in_staged : AllOnly Only staging.objects
  in_staged = stores.staged_any here

  in_none : AllOnly Only empty
  in_none y o g = absurd (none_in_empty (slice_cmp nat_cmp) y o g)

  node_only : (r : Repository) (slots : Slots) → AllOnly Only r.objects → SlotsOnly Only slots → SharedOnly Only (up r slots)
  node_only r slots a s = record { stored = a; pushes = is_open Only slots s }

  o0 : SlotsOnly Only (steps.l0 here)
  o0 = one_open Only empty 0 (steps.p0 here) (none_open Only) in_all

  o1 : SlotsOnly Only (steps.l1 here)
  o1 = one_open Only (steps.l0 here) 0 (steps.p1 here) o0 in_all

  o2 : SlotsOnly Only (steps.l2 here)
  o2 = one_open Only (steps.l1 here) 0 (steps.p2 here) o1 in_all

  o3 : SlotsOnly Only (steps.l3 here)
  o3 = one_open Only (steps.l2 here) 0 (steps.p3 here) o2 in_all

  o4 : SlotsOnly Only (steps.l4 here)
  o4 = less_open Only (steps.l3 here) 0 o3

  carried : (o : Object) → HasObject all o → Only o
  carried o has = in_all has.0 o has.1

  module _ (start : Start) (are_new : (c : ℕ) (n : CloneNode) → get start.clones c ≡ Some n → n ≡ clone empty_repository Nothing) where
    h0 : WorldOnly Only (worlds.w0 here start).world
    h0 = record {
      shared = node_only empty_repository empty in_none (none_open Only);
      clones = λ c n g. subst (λ (m : CloneNode). AllOnly Only m.repository.objects) (sym (are_new c n g)) in_none;
      sent = λ k e g o c. absurd (cc);
    }

    h1 : WorldOnly Only (worlds.w1 here start).world
    h1 = clone_only Only (worlds.w0 here start).world 0 (clone staging Nothing) None h0 in_staged (sends_nothing Only)

    h2 : WorldOnly Only (worlds.w2 here start).world
    h2 = clone_only Only (worlds.w1 here start).world 0 (clone on_main Nothing) None h1 in_all (sends_nothing Only)

    h3 : WorldOnly Only (worlds.w3 here start).world
    h3 = clone_only Only (worlds.w2 here start).world 0 (clone on_main Nothing) (Some (steps.push here)) h2 in_all (sends_one Only (steps.push here) carried)

    h4 : WorldOnly Only (worlds.w4 here start).world
    h4 = shared_only Only (worlds.w3 here start).world 0 (Did (Opened 0)) (up empty_repository (steps.l0 here)) None h3 (node_only empty_repository (steps.l0 here) in_none o0) (sends_nothing Only)

    h5 : WorldOnly Only (worlds.w5 here start).world
    h5 = shared_only Only (worlds.w4 here start).world 0 (Did (Passed 1)) (up empty_repository (steps.l1 here)) None h4 (node_only empty_repository (steps.l1 here) in_none o1) (sends_nothing Only)

    h6 : WorldOnly Only (worlds.w6 here start).world
    h6 = shared_only Only (worlds.w5 here start).world 0 (Did MigratedAll) (up (steps.migrated here) (steps.l2 here)) None h5 (node_only (steps.migrated here) (steps.l2 here) in_all o2) (sends_nothing Only)

    h7 : WorldOnly Only (worlds.w7 here start).world
    h7 = shared_only Only (worlds.w6 here start).world 0 (Did (Updated (branch main) None)) (up served (steps.l3 here)) None h6 (node_only served (steps.l3 here) in_all o3) (sends_nothing Only)

    h8 : WorldOnly Only (worlds.w8 here start).world
    h8 = shared_only Only (worlds.w7 here start).world 0 (Did Sends) (up served (steps.l4 here)) (Some (steps.report here)) h7 (node_only served (steps.l4 here) in_all o4) (sends_one Only (steps.report here) (λ o c. absurd c))

    h9 : WorldOnly Only (worlds.w9 here start).world
    h9 = clone_only Only (worlds.w8 here start).world 0 (clone (steps.knowing here) Nothing) None h8 in_all (sends_nothing Only)

    h10 : WorldOnly Only (worlds.w10 here start).world
    h10 = h9

    h11 : WorldOnly Only (worlds.w11 here start).world
    h11 = shared_only Only (worlds.w10 here start).world 0 (Fault Device) (steps.down here) None h10 (record { stored = in_all; pushes = λ slots e. absurd (cc) }) (sends_nothing Only)

    h12 : WorldOnly Only (worlds.w12 here start).world
    h12 = shared_only Only (worlds.w11 here start).world 0 (Did Stored) (up served empty) None h11 (node_only served empty in_all (none_open Only)) (sends_nothing Only)

    h13 : WorldOnly Only (worlds.w13 here start).world
    h13 = clone_only Only (worlds.w12 here start).world 1 (clone empty_repository AnAdvert) (Some ListRefs) h12 in_none (sends_one Only ListRefs (λ o c. absurd c))

    h14 : WorldOnly Only (worlds.w14 here start).world
    h14 = shared_only Only (worlds.w13 here start).world 1 (Did Sends) (up served empty) (Some (steps.advert here)) h13 (node_only served empty in_all (none_open Only)) (sends_one Only (steps.advert here) (λ o c. absurd c))

    h15 : WorldOnly Only (worlds.w15 here start).world
    h15 = clone_only Only (worlds.w14 here start).world 1 (clone empty_repository (APack (x ∷ []) served.refs)) (Some (steps.want here)) h14 in_none (sends_one Only (steps.want here) (λ o c. absurd c))

    h16 : WorldOnly Only (worlds.w16 here start).world
    h16 = shared_only Only (worlds.w15 here start).world 1 (Did Sends) (up served empty) (Some (steps.pack here)) h15 (node_only served empty in_all (none_open Only)) (sends_one Only (steps.pack here) carried)

    h17 : WorldOnly Only (worlds.w17 here start).world
    h17 = clone_only Only (worlds.w16 here start).world 1 (clone (steps.fetched here) Nothing) None h16 in_all (sends_nothing Only)

    h18 : WorldOnly Only (worlds.w18 here start).world
    h18 = clone_only Only (worlds.w17 here start).world 0 (clone (steps.knowing here) Nothing) None h17 in_all (sends_nothing Only)

    h19 : WorldOnly Only (worlds.w19 here start).world
    h19 = shared_only Only (worlds.w18 here start).world 0 (Did Stored) (up served empty) None h18 (node_only served empty in_all (none_open Only)) (sends_nothing Only)

    h20 : WorldOnly Only (worlds.w20 here start).world
    h20 = shared_only Only (worlds.w19 here start).world 0 (Did (Removed 0)) (up served empty) None h19 (node_only served empty in_all (none_open Only)) (sends_nothing Only)

    -- two orders bring them, and no other event brings any
    stage_brings : (o : Object) → BringsExactly fmt wire (worlds.w0 here start) (Orders 0 (StageFile here.path plain_file here.content)) o → Only o
    stage_brings o b =
        let task_is : b.1 ≡ Stage here.path plain_file here.content = let e = b.3 in cc in
        stage_makes o (subst (λ (z : Task). Makes fmt wire.rules b.0.repository z o) task_is b.4)

    commit_brings : (o : Object) → BringsExactly fmt wire (worlds.w1 here start) (Orders 0 (CommitIndex [] here.author here.author here.message)) o → Only o
    commit_brings o b =
        let task_is : b.1 ≡ MakeCommit [] here.author here.author here.message = let e = b.3.2 in let v = b.3.1 in cc in
        let was : get (worlds.w1 here start).world.clones 0 ≡ Some (clone staging Nothing) = insert_same nat_cmp_total nat_cmp-IsAntisymmetric start.clones 0 (clone staging Nothing) in
        let node_is : b.0 ≡ clone staging Nothing = let g = b.2 in cc in
        commit_makes o (subst (λ (n : CloneNode). Makes fmt wire.rules n.repository (MakeCommit [] here.author here.author here.message) o) node_is (subst (λ (z : Task). Makes fmt wire.rules b.0.repository z o) task_is b.4))

    each : EachOnly Only fmt wire (worlds.w0 here start) (worlds.history here start)
    each = (h20, (λ o b. absurd b), (h19, (λ o b. absurd b), (h18, (λ o b. absurd b), (h17, (λ o b. absurd b), (h16, (λ o b. absurd b), (h15, (λ o b. absurd b), (h14, (λ o b. absurd b), (h13, (λ o b. absurd (fetch_makes b.0.repository b.1 o b.3 b.4)), (h12, (λ o b. absurd b), (h11, (λ o b. absurd b), (h10, (λ o b. absurd b), (h9, (λ o b. absurd b), (h8, (λ o b. absurd b), (h7, (λ o b. absurd b), (h6, (λ o b. absurd b), (h5, (λ o b. absurd b), (h4, (λ o b. absurd b), (h3, (λ o b. absurd (push_makes b.3.0 b.0.repository b.1 o b.3.2 b.4)), (h2, commit_brings, (h1, stage_brings, h0))))))))))))))))))))

    pub no_collision : NoExactCollision fmt wire (worlds.w0 here start) (worlds.history here start)
    no_collision = record { unique = λ o p i j e. stores.one_each here o p (occurs o i) (occurs p j) e }
      where
        occurs : (o : Object) → OccursExactly fmt wire (worlds.w0 here start) (worlds.history here start) o → Only o
        occurs o i = each_only Only fmt wire (worlds.w0 here start) (worlds.history here start) each o i
