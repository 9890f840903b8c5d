-- The worlds of the run, and that each event leads from one to the next.
use Rattle.std.proofs.Common.{slice_get, ◌≡◌, ◌≢◌, ℕ, Bool, false, ◌∷◌, Option, Some, None, Ok, inl, inr, refl, sym, ap, ◌∙◌, subst, nat_cmp, arith, unwrap_or, []}
use Rattle.std.specs.Prelude.{codes}
use Rattle.std.specs.FinMap.{FinMap, get, insert, empty, nat_cmp-IsAntisymmetric}
use Rattle.std.specs.Cmp.{nat_cmp_total}
use Rattle.vc_model.specs.Object.{Id, Format}
use Rattle.vc_model.specs.Refs.{branch}
use Rattle.vc_model.specs.Repository.{Repository}
use Rattle.vc_model.specs.Message.{Message}
use Rattle.vc_model.specs.Message.Message.{ListRefs}
use Rattle.vc_model.specs.Message.Envelope.{ToShared, ToClone}
use Rattle.vc_model.specs.Node.{Answer, Reply}
use Rattle.vc_model.specs.Node.Answer.{Did, Fault}
use Rattle.vc_model.specs.Node.Failure.{Device}
use Rattle.vc_model.specs.Node.Reply.{Stored, Made, Sends, Opened, Passed, MigratedAll, Updated, Reported, Moved, Same, Removed}
use Rattle.vc_model.specs.Shared.{SharedNode}
use Rattle.vc_model.specs.Clone.{CloneNode, Task}
use Rattle.vc_model.specs.Clone.Awaited.{Nothing, AnAdvert, APack}
use Rattle.vc_model.specs.Clone.Task.{Stage, MakeCommit, StartPush, StartFetch}
use Rattle.vc_model.specs.CloneCall.{CloneAnswers}
use Rattle.vc_model.specs.CloneCall.CloneCall.{Command as Commands, Receive, Asks as AsksClone}
use Rattle.vc_model.specs.SharedCall.{SharedAnswers}
use Rattle.vc_model.specs.SharedCall.SharedCall.{Accept, StepOf, Open, Asks, Prune}
use Rattle.vc_model.specs.Order.{Order, IsTaskOf}
use Rattle.vc_model.specs.Order.Order.{StageFile, CommitIndex, PushItems, Fetch}
use Rattle.vc_model.specs.Fuse.{Fuse, Fuses, Place, Burns, DiffersAt, with_fuse}
use Rattle.vc_model.specs.World.{empty_repository, after_shared, after_clone}
use Rattle.vc_model.specs.World.Party.{TheShared, TheClone}
use Rattle.vc_model.specs.Question.Question.{Compare, PackRefs}
use Rattle.vc_model.specs.Wire.{Wire}
use Rattle.vc_model.specs.ExactWorld.{FusedWorld, WorldEvent, ExactMoment, ExactHistory, ExactRun, WorldAnswers, NothingForgedExactly, MayShared, TogetherAt, MayClone}
use Rattle.vc_model.specs.ExactWorld.WorldEvent.{Orders, Delivers, Steps, Compares, Prunes, Packs, Restarts, Stops}
use Rattle.vc_model.specs.ExactWorld.WorldAnswers.{stop_shared, at_shared, at_clone}
use Rattle.vc_model.proofs.Maps.{insert_same, insert_other, removed_none}
use Rattle.vc_runs.specs.Names.{plain_file}
use Rattle.vc_runs.specs.Witness.{main}
use Rattle.vc_runs.proofs.Graphs.{in_none}
use Rattle.vc_runs.proofs.Stores.{Facts, Setting}
use Rattle.vc_runs.proofs.Steps.{clone, up}
use Rattle.vc_runs.proofs.Steps as steps

-- ---- fuses

device_did : (y : Reply) → Did y ≡ Fault Device → ⊥
device_did y e = cc

-- without a fuse what is done burns none
quiet : (frail : Bool) (fuse : Fuse) → fuse ≡ None → (may together : Type 0) (old new : Repository) (y : Reply) → Burns frail fuse may together old new (Did y) None
quiet frail fuse none may together old new y = subst (λ v. Burns frail v may together old new (Did y) None) (sym none) ((λ e. absurd (device_did y e)), refl)

-- a fuse with no writes left burns at what may write
burnt : (frail : Bool) (may together : Type 0) (r : Repository) → may → Burns frail (Some 0) may together r r (Fault Device) (Some 0)
burnt frail may together r m = (0, omega arith, (λ _. refl), ([], omega arith, (λ c. absurd (in_none Place.TheRefs c)), same), refl, (λ _. inr (m, refl)))
  where
    same : DiffersAt [] r r
    same = record { objects = λ x. inl refl; refs = λ n. inl refl; head = inl refl; index = inl refl }

-- ---- one event

abbrev pub by_clone : FusedWorld → ℕ → CloneNode → Option Message → FusedWorld
by_clone old c m sends = record { world = after_clone old.world c m sends; frail = old.frail; shared_fuse = old.shared_fuse; clone_fuses = with_fuse old.clone_fuses c None }

abbrev pub by_shared : FusedWorld → ℕ → Answer → SharedNode → Option Message → Fuse → FusedWorld
by_shared old c a n sends fuse = record { world = after_shared old.world c a n sends; frail = old.frail; shared_fuse = fuse; clone_fuses = old.clone_fuses }

abbrev pub with_stop : FusedWorld → ℕ → FusedWorld
with_stop old writes = record { world = old.world; frail = old.frail; shared_fuse = Some writes; clone_fuses = old.clone_fuses }

-- what a new world may have of its own
pub record Start : Type 0 where
  pub clones : FinMap nat_cmp CloneNode
  pub senders : FinMap nat_cmp ℕ
  pub frail : Bool
  pub fuses : Fuses

module _ (here : Setting) where
  abbrev fmt : Format
  fmt = here.fmt

  abbrev wire : Wire fmt
  wire = here.wire

  abbrev f : Facts fmt wire here.path here.content here.tree here.commit here.author here.message
  f = here.facts

  abbrev x : Id
  x = fmt.name_of here.commit

  abbrev staging : Repository
  staging = steps.staging here

  abbrev served : Repository
  served = steps.served here

  abbrev on_main : Repository
  on_main = steps.on_main here

  abbrev knowing : Repository
  knowing = steps.knowing here

  abbrev fetched : Repository
  fetched = steps.fetched here

  abbrev push : Message
  push = steps.push here

  abbrev report : Message
  report = steps.report here

  abbrev advert : Message
  advert = steps.advert here

  abbrev want : Message
  want = steps.want here

  abbrev pack : Message
  pack = steps.pack here

  -- a clone answers an order, or a message that is delivered
  ordered : (old : FusedWorld) (c : ℕ) (n m : CloneNode) (o : Order) (task : Task) (y : Reply) (sends : Option Message) → get old.world.clones c ≡ Some n → get old.clone_fuses c ≡ None → n.live ≢ None →
      IsTaskOf fmt wire.rules n.repository o (Ok task) → CloneAnswers fmt wire.rules n (Commands task) (Did y) m sends →
      WorldAnswers fmt wire old (Orders c o) (Did y) (by_clone old c m sends)
  ordered old c n m o task y sends there none is_up is answers =
      at_clone c n m (Commands task) sends None there (refl, inr (is_up, inl (Ok task, is, refl))) answers
      (quiet old.frail (get old.clone_fuses c) none (MayClone fmt wire.rules n (Commands task)) ⊥ n.repository m.repository y) refl

  received : (old : FusedWorld) (c : ℕ) (n m : CloneNode) (k : ℕ) (q : Message) (y : Reply) (sends : Option Message) → get old.world.clones c ≡ Some n → get old.clone_fuses c ≡ None →
      slice_get old.world.sent k ≡ Some (ToClone c q) → CloneAnswers fmt wire.rules n (Receive q) (Did y) m sends →
      WorldAnswers fmt wire old (Delivers k) (Did y) (by_clone old c m sends)
  received old c n m k q y sends there none sent answers =
      at_clone c n m (Receive q) sends None there (q, sent, refl) answers
      (quiet old.frail (get old.clone_fuses c) none (MayClone fmt wire.rules n (Receive q)) ⊥ n.repository m.repository y) refl

  -- the shared node answers a message that is delivered, or steps a push
  accepted : (old : FusedWorld) (c : ℕ) (n : SharedNode) (k : ℕ) (q : Message) (y : Reply) (sends : Option Message) → old.shared_fuse ≡ None →
      slice_get old.world.sent k ≡ Some (ToShared c q) → SharedAnswers fmt wire.rules old.world.shared (Accept q) (Did y) n sends →
      WorldAnswers fmt wire old (Delivers k) (Did y) (by_shared old c (Did y) n sends None)
  accepted old c n k q y sends none sent answers =
      at_shared c (Accept q) n sends None (q, sent, refl) answers
      (quiet old.frail old.shared_fuse none (MayShared fmt old.world.shared (Accept q)) (TogetherAt old.world.shared (Accept q)) old.world.shared.repository n.repository y) refl

  stepped : (old : FusedWorld) (c : ℕ) (n : SharedNode) (s : ℕ) (y : Reply) (sends : Option Message) → old.shared_fuse ≡ None →
      c ≡ unwrap_or (get old.world.senders s) 0 → SharedAnswers fmt wire.rules old.world.shared (StepOf s) (Did y) n sends →
      WorldAnswers fmt wire old (Steps s) (Did y) (by_shared old c (Did y) n sends None)
  stepped old c n s y sends none sender answers =
      at_shared c (StepOf s) n sends None (sender, refl) answers
      (quiet old.frail old.shared_fuse none (MayShared fmt old.world.shared (StepOf s)) (TogetherAt old.world.shared (StepOf s)) old.world.shared.repository n.repository y) refl

  -- ---- the worlds, from a new one

  module _ (start : Start) where
    abbrev clones : FinMap nat_cmp CloneNode
    clones = start.clones

    abbrev fuses : Fuses
    fuses = start.fuses

    abbrev pub w0 : FusedWorld
    w0 = record { world = record { shared = up empty_repository empty; clones = clones; sent = []; senders = start.senders }; frail = start.frail; shared_fuse = None; clone_fuses = fuses }

    abbrev pub w1 : FusedWorld
    w1 = by_clone w0 0 (clone staging Nothing) None

    abbrev pub w2 : FusedWorld
    w2 = by_clone w1 0 (clone on_main Nothing) None

    abbrev pub w3 : FusedWorld
    w3 = by_clone w2 0 (clone on_main Nothing) (Some push)

    abbrev pub w4 : FusedWorld
    w4 = by_shared w3 0 (Did (Opened 0)) (up empty_repository (steps.l0 here)) None None

    abbrev pub w5 : FusedWorld
    w5 = by_shared w4 0 (Did (Passed 1)) (up empty_repository (steps.l1 here)) None None

    abbrev pub w6 : FusedWorld
    w6 = by_shared w5 0 (Did MigratedAll) (up (steps.migrated here) (steps.l2 here)) None None

    abbrev pub w7 : FusedWorld
    w7 = by_shared w6 0 (Did (Updated (branch main) None)) (up served (steps.l3 here)) None None

    abbrev pub w8 : FusedWorld
    w8 = by_shared w7 0 (Did Sends) (up served (steps.l4 here)) (Some report) None

    abbrev pub w9 : FusedWorld
    w9 = by_clone w8 0 (clone knowing Nothing) None

    abbrev pub w10 : FusedWorld
    w10 = with_stop w9 0

    abbrev pub w11 : FusedWorld
    w11 = by_shared w10 0 (Fault Device) (steps.down here) None (Some 0)

    abbrev pub w12 : FusedWorld
    w12 = by_shared w11 0 (Did Stored) (up served empty) None None

    abbrev pub w13 : FusedWorld
    w13 = by_clone w12 1 (clone empty_repository AnAdvert) (Some ListRefs)

    abbrev pub w14 : FusedWorld
    w14 = by_shared w13 1 (Did Sends) (up served empty) (Some advert) None

    abbrev pub w15 : FusedWorld
    w15 = by_clone w14 1 (clone empty_repository (APack (x ∷ []) served.refs)) (Some want)

    abbrev pub w16 : FusedWorld
    w16 = by_shared w15 1 (Did Sends) (up served empty) (Some pack) None

    abbrev pub w17 : FusedWorld
    w17 = by_clone w16 1 (clone fetched Nothing) None

    abbrev pub w18 : FusedWorld
    w18 = by_clone w17 0 (clone knowing Nothing) None

    abbrev pub w19 : FusedWorld
    w19 = by_shared w18 0 (Did Stored) (up served empty) None None

    abbrev pub w20 : FusedWorld
    w20 = by_shared w19 0 (Did (Removed 0)) (up served empty) None None

    abbrev then_ : WorldEvent → Answer → FusedWorld → ExactMoment
    then_ e a w = record { event = e; answer = a; world = w }

    abbrev pub history : ExactHistory
    history =
        then_ (Prunes TheShared) (Did (Removed 0)) w20
        ∷ then_ (Packs TheShared) (Did Stored) w19
        ∷ then_ (Compares (TheClone 0) (codes "HEAD") (codes "@")) (Did Same) w18
        ∷ then_ (Delivers 5) (Did (Moved 1 0)) w17
        ∷ then_ (Delivers 4) (Did Sends) w16
        ∷ then_ (Delivers 3) (Did Sends) w15
        ∷ then_ (Delivers 2) (Did Sends) w14
        ∷ then_ (Orders 1 Fetch) (Did Sends) w13
        ∷ then_ (Restarts TheShared) (Did Stored) w12
        ∷ then_ (Delivers 0) (Fault Device) w11
        ∷ then_ (Stops TheShared 0) (Did Stored) w10
        ∷ then_ (Delivers 1) (Did (Reported 1 [])) w9
        ∷ then_ (Steps 0) (Did Sends) w8
        ∷ then_ (Steps 0) (Did (Updated (branch main) None)) w7
        ∷ then_ (Steps 0) (Did MigratedAll) w6
        ∷ then_ (Steps 0) (Did (Passed 1)) w5
        ∷ then_ (Delivers 0) (Did (Opened 0)) w4
        ∷ then_ (Orders 0 (PushItems false (record { value = Some (codes "HEAD"); name = branch main } ∷ []))) (Did Sends) w3
        ∷ then_ (Orders 0 (CommitIndex [] here.author here.author here.message)) (Did (Made x)) w2
        ∷ then_ (Orders 0 (StageFile here.path plain_file here.content)) (Did Stored) w1
        ∷ []

    pub honest : NothingForgedExactly fmt wire history
    honest = (tt, (tt, (tt, (tt, (tt, (tt, (tt, (tt, (tt, (tt, (tt, (tt, (tt, (tt, (tt, (tt, (tt, (tt, (tt, (tt, tt))))))))))))))))))))

    -- clones 0 and 1 are new, and have no fuse
    module _ (first : get clones 0 ≡ Some (clone empty_repository Nothing)) (second : get clones 1 ≡ Some (clone empty_repository Nothing)) (no_first : get fuses 0 ≡ None) (no_second : get fuses 1 ≡ None) where
      set : (c : ℕ) (m : FinMap nat_cmp CloneNode) (n : CloneNode) → get (insert m c n) c ≡ Some n
      set c m n = insert_same nat_cmp_total nat_cmp-IsAntisymmetric m c n

      kept : (m : FinMap nat_cmp CloneNode) (n k : CloneNode) → get m 1 ≡ Some k → get (insert m 0 n) 1 ≡ Some k
      kept m n k e = insert_other nat_cmp_total nat_cmp-IsAntisymmetric m 0 n 1 (λ e. omega arith) ∙ e

      kept_first : (m : FinMap nat_cmp CloneNode) (n k : CloneNode) → get m 0 ≡ Some k → get (insert m 1 n) 0 ≡ Some k
      kept_first m n k e = insert_other nat_cmp_total nat_cmp-IsAntisymmetric m 1 n 0 (λ e. omega arith) ∙ e

      sender : 0 ≡ unwrap_or (get (insert start.senders 0 0) 0) 0
      sender = sym (ap (λ v. unwrap_or v 0) (insert_same nat_cmp_total nat_cmp-IsAntisymmetric start.senders 0 0))

      some : {A : Type 0} (a : A) → Some a ≢ None
      some a e = absurd (cc)

      -- the first clone has no fuse after each of its answers
      no_fuse_1 : get w1.clone_fuses 0 ≡ None
      no_fuse_1 = removed_none fuses 0 0 no_first

      no_fuse_2 : get w2.clone_fuses 0 ≡ None
      no_fuse_2 = removed_none w1.clone_fuses 0 0 no_fuse_1

      no_fuse_3 : get w3.clone_fuses 0 ≡ None
      no_fuse_3 = removed_none w2.clone_fuses 0 0 no_fuse_2

      e1 : WorldAnswers fmt wire w0 (Orders 0 (StageFile here.path plain_file here.content)) (Did Stored) w1
      e1 = ordered w0 0 (clone empty_repository Nothing) (clone staging Nothing) (StageFile here.path plain_file here.content) (Stage here.path plain_file here.content) Stored None first no_first (some Nothing)
          refl (steps.stages here)

      e2 : WorldAnswers fmt wire w1 (Orders 0 (CommitIndex [] here.author here.author here.message)) (Did (Made x)) w2
      e2 = ordered w1 0 (clone staging Nothing) (clone on_main Nothing) (CommitIndex [] here.author here.author here.message) (MakeCommit [] here.author here.author here.message) (Made x) None
          (set 0 clones (clone staging Nothing)) no_fuse_1 (some Nothing) (Ok [], refl, refl) (steps.commits here)

      e3 : WorldAnswers fmt wire w2 (Orders 0 (PushItems false (record { value = Some (codes "HEAD"); name = branch main } ∷ []))) (Did Sends) w3
      e3 = ordered w2 0 (clone on_main Nothing) (clone on_main Nothing) (PushItems false (record { value = Some (codes "HEAD"); name = branch main } ∷ []))
          (StartPush false (record { id = Some x; name = branch main } ∷ [])) Sends (Some push) (set 0 w1.world.clones (clone on_main Nothing)) no_fuse_2 (some Nothing)
          (Ok (record { id = Some x; name = branch main } ∷ []), inr (codes "HEAD", refl, inr (x, Ok [], f.head on_main (steps.head_is here), refl, refl)), refl)
          (steps.pushes here)

      e4 : WorldAnswers fmt wire w3 (Delivers 0) (Did (Opened 0)) w4
      e4 = accepted w3 0 (up empty_repository (steps.l0 here)) 0 push (Opened 0) None refl refl (steps.opens here)

      e5 : WorldAnswers fmt wire w4 (Steps 0) (Did (Passed 1)) w5
      e5 = stepped w4 0 (up empty_repository (steps.l1 here)) 0 (Passed 1) None refl sender (steps.checks here)

      e6 : WorldAnswers fmt wire w5 (Steps 0) (Did MigratedAll) w6
      e6 = stepped w5 0 (up (steps.migrated here) (steps.l2 here)) 0 MigratedAll None refl sender (steps.migrates here)

      e7 : WorldAnswers fmt wire w6 (Steps 0) (Did (Updated (branch main) None)) w7
      e7 = stepped w6 0 (up served (steps.l3 here)) 0 (Updated (branch main) None) None refl sender (steps.updates here)

      e8 : WorldAnswers fmt wire w7 (Steps 0) (Did Sends) w8
      e8 = stepped w7 0 (up served (steps.l4 here)) 0 Sends (Some report) refl sender (steps.reports here)

      e9 : WorldAnswers fmt wire w8 (Delivers 1) (Did (Reported 1 [])) w9
      e9 = received w8 0 (clone on_main Nothing) (clone knowing Nothing) 1 report (Reported 1 []) None (set 0 w2.world.clones (clone on_main Nothing))
          no_fuse_3 refl (steps.tracks here)

      e10 : WorldAnswers fmt wire w9 (Stops TheShared 0) (Did Stored) w10
      e10 = stop_shared 0 (Some 0) refl (inl refl) refl refl

      e11 : WorldAnswers fmt wire w10 (Delivers 0) (Fault Device) w11
      e11 = at_shared 0 (Accept push) (steps.down here) None (Some 0) (push, refl, refl) (steps.fails here)
          (burnt start.frail (MayShared fmt w10.world.shared (Accept push)) (TogetherAt w10.world.shared (Accept push)) served (steps.l4 here, refl, tt)) refl

      e12 : WorldAnswers fmt wire w11 (Restarts TheShared) (Did Stored) w12
      e12 = at_shared 0 Open (up served empty) None None (refl, refl) (steps.restarts here)
          (quiet start.frail None refl (MayShared fmt w11.world.shared Open) (TogetherAt w11.world.shared Open) served served Stored) refl

      second_kept : get w12.world.clones 1 ≡ Some (clone empty_repository Nothing)
      second_kept =
          kept w8.world.clones (clone knowing Nothing) _ (kept w2.world.clones (clone on_main Nothing) _ (kept w1.world.clones (clone on_main Nothing) _ (kept clones (clone staging Nothing) _ second)))

      none_kept : get w12.clone_fuses 1 ≡ None
      none_kept = removed_none w8.clone_fuses 0 1 (removed_none w2.clone_fuses 0 1 (removed_none w1.clone_fuses 0 1 (removed_none fuses 0 1 no_second)))

      e13 : WorldAnswers fmt wire w12 (Orders 1 Fetch) (Did Sends) w13
      e13 = ordered w12 1 (clone empty_repository Nothing) (clone empty_repository AnAdvert) Fetch StartFetch Sends (Some ListRefs) second_kept none_kept (some Nothing) refl (steps.asks here)

      e14 : WorldAnswers fmt wire w13 (Delivers 2) (Did Sends) w14
      e14 = accepted w13 1 (up served empty) 2 ListRefs Sends (Some advert) refl refl (steps.lists here)

      e15 : WorldAnswers fmt wire w14 (Delivers 3) (Did Sends) w15
      e15 = received w14 1 (clone empty_repository AnAdvert) (clone empty_repository (APack (x ∷ []) served.refs)) 3 advert Sends (Some want) (set 1 w12.world.clones (clone empty_repository AnAdvert))
          (removed_none w12.clone_fuses 1 1 none_kept) refl (steps.wants here)

      e16 : WorldAnswers fmt wire w15 (Delivers 4) (Did Sends) w16
      e16 = accepted w15 1 (up served empty) 4 want Sends (Some pack) refl refl (steps.packs here)

      e17 : WorldAnswers fmt wire w16 (Delivers 5) (Did (Moved 1 0)) w17
      e17 = received w16 1 (clone empty_repository (APack (x ∷ []) served.refs)) (clone fetched Nothing) 5 pack (Moved 1 0) None (set 1 w13.world.clones (clone empty_repository (APack (x ∷ []) served.refs)))
          (removed_none w13.clone_fuses 1 1 (removed_none w12.clone_fuses 1 1 none_kept)) refl (steps.takes here)

      -- the first clone is as it was when it had the report
      first_kept : get w17.world.clones 0 ≡ Some (clone knowing Nothing)
      first_kept = kept_first w15.world.clones (clone fetched Nothing) _ (kept_first w13.world.clones _ _ (kept_first w12.world.clones _ _ (set 0 w8.world.clones (clone knowing Nothing))))

      no_fuse_17 : get w17.clone_fuses 0 ≡ None
      no_fuse_17 = removed_none w15.clone_fuses 1 0 (removed_none w13.clone_fuses 1 0 (removed_none w12.clone_fuses 1 0 (removed_none w8.clone_fuses 0 0 no_fuse_3)))

      e18 : WorldAnswers fmt wire w17 (Compares (TheClone 0) (codes "HEAD") (codes "@")) (Did Same) w18
      e18 = at_clone 0 (clone knowing Nothing) (clone knowing Nothing) (AsksClone (Compare (codes "HEAD") (codes "@"))) None None first_kept (refl, refl) (steps.compares here)
          (quiet start.frail (get w17.clone_fuses 0) no_fuse_17 (MayClone fmt wire.rules (clone knowing Nothing) (AsksClone (Compare (codes "HEAD") (codes "@")))) ⊥ knowing knowing Same) refl

      e19 : WorldAnswers fmt wire w18 (Packs TheShared) (Did Stored) w19
      e19 = at_shared 0 (Asks PackRefs) (up served empty) None None (refl, refl) (steps.packs_refs here)
          (quiet start.frail None refl (MayShared fmt w18.world.shared (Asks PackRefs)) (TogetherAt w18.world.shared (Asks PackRefs)) served served Stored) refl

      e20 : WorldAnswers fmt wire w19 (Prunes TheShared) (Did (Removed 0)) w20
      e20 = at_shared 0 Prune (up served empty) None None (refl, refl) (steps.prunes here)
          (quiet start.frail None refl (MayShared fmt w19.world.shared Prune) (TogetherAt w19.world.shared Prune) served served (Removed 0)) refl

      pub is_run : ExactRun fmt wire w0 history
      is_run = (e20, (e19, (e18, (e17, (e16, (e15, (e14, (e13, (e12, (e11, (e10, (e9, (e8, (e7, (e6, (e5, (e4, (e3, (e2, (e1, tt))))))))))))))))))))

      pub first_clone : get w20.world.clones 0 ≡ Some (clone knowing Nothing)
      first_clone = set 0 w17.world.clones (clone knowing Nothing)

      pub second_clone : get w20.world.clones 1 ≡ Some (clone fetched Nothing)
      second_clone = kept w17.world.clones (clone knowing Nothing) _ (set 1 w15.world.clones (clone fetched Nothing))
