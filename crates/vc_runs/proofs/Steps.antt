-- What each node answers in the run, event by event.
use Rattle.std.proofs.Common.{◌⊎◌, ◌-◌, ◌≡◌, ◌≢◌, false, ◌∷◌, ◌++◌, map, Option, Some, None, Ok, inl, inr, refl, sym, ap, ◌∙◌, subst, nat_cmp, arith, take, Contains, unwrap_or, option_to_list, []}
use Rattle.std.specs.FinMap.{len, get, insert, remove, empty, get-empty, entries, nat_cmp-IsAntisymmetric}
use Rattle.std.specs.Cmp.{nat_cmp_total}
use Rattle.std.specs.Cmp.Lexicographic.{slice_cmp, nat_list_cmp_total}
use Rattle.vc_model.specs.Object.{Id, zero_id, Object, Format, Objects, Lookup, stored, over}
use Rattle.vc_model.specs.Object.Kind.{Commit}
use Rattle.vc_model.specs.Reach.{Reaches, Links, IsClosed, HasHistory}
use Rattle.vc_model.specs.Refs.{RefName, Refs, branch, tracking, AreApart, Conflicts}
use Rattle.vc_model.specs.Repository.{Repository, Index, with_objects, no_effect, only_changes}
use Rattle.vc_model.specs.Repository.Change.{SetRefs, SetIndex}
use Rattle.vc_model.specs.Push.{Command, OpenPush, Slots}
use Rattle.vc_model.specs.Push.Verdict.{Passing, Accepted}
use Rattle.vc_model.specs.Push.Stage.{Checked, Migrated, Finished}
use Rattle.vc_model.specs.Message.{Message}
use Rattle.vc_model.specs.Message.Message.{ListRefs, Advert, Want, Pack, Push, Report}
use Rattle.vc_model.specs.Node.{Deed, IsDifference}
use Rattle.vc_model.specs.Node.Answer.{Did, Fault}
use Rattle.vc_model.specs.Node.Failure.{Device}
use Rattle.vc_model.specs.Node.Reply.{Stored, Made, Sends, Opened, Passed, MigratedAll, Updated, Reported, Moved, Same, Removed}
use Rattle.vc_model.specs.Shared.{SharedNode, IsNeeded, head_value, IsOurs, IsFirstCounted, opened}
use Rattle.vc_model.specs.Shared.UpdatesPush.{singly}
use Rattle.vc_model.specs.Clone.{Awaited, CloneNode, PushItem, with_object, MovesToAdvert, IsItemId, IsTrackingValue, IsOldOf, MovesBranch, MovesAny, Moves, AreOpen, haves_of, once, quietly, sending, head_to}
use Rattle.vc_model.specs.Clone.Awaited.{Nothing, AnAdvert, APack}
use Rattle.vc_model.specs.Clone.Task.{Stage, MakeCommit, StartPush, StartFetch}
use Rattle.vc_model.specs.CloneCall.{CloneAnswers, new_commit}
use Rattle.vc_model.specs.CloneCall.CloneCall.{Command as Commands, Receive, Asks as AsksClone}
use Rattle.vc_model.specs.CloneCall.CloneAnswers.{obeyed as clone_obeyed, asked as clone_asked}
use Rattle.vc_model.specs.SharedCall.{SharedAnswers}
use Rattle.vc_model.specs.SharedCall.SharedCall.{Accept, StepOf, Open, Asks, Prune}
use Rattle.vc_model.specs.SharedCall.SharedAnswers.{obeyed, asked, pruned, opened as restarted, faulted}
use Rattle.vc_model.specs.Question.Question.{Compare, PackRefs}
use Rattle.vc_model.specs.Shared.IsNeeded.{by_root, by_push}
use Rattle.vc_model.specs.World.{empty_repository}
use Rattle.vc_model.specs.Wire.{Wire}
use Rattle.vc_model.proofs.Commits.{all_holds}
use Rattle.vc_model.proofs.Maps.{insert_same, insert_other, bytes_same, none_in_empty, none_added, all_added}
use Rattle.vc_model.proofs.Tracking.{branch_apart}
use Rattle.vc_model.proofs.Apart.{no_conflict}
use Rattle.vc_model.proofs.Following.{branch_conflict}
use Rattle.std.specs.Prelude.{codes}
use Rattle.vc_runs.specs.Names.{plain_file}
use Rattle.vc_runs.specs.Witness.{main}
use Rattle.vc_runs.proofs.Graphs.{one_ref, one_alone, no_entries, entries_of_one, in_none, in_one}
use Rattle.vc_runs.proofs.Stores.{Facts, Setting, index_with}
use Rattle.vc_runs.proofs.Stores as stores

abbrev pub clone : Repository → Awaited → CloneNode
clone r a = record { repository = r; live = Some a }

abbrev pub up : Repository → Slots → SharedNode
up r l = record { repository = r; live = Some l }

put : (l : Slots) (p : OpenPush) → get (insert l 0 p) 0 ≡ Some p
put l p = insert_same nat_cmp_total nat_cmp-IsAntisymmetric l 0 p

-- a new clone has nothing
pub no_haves : haves_of empty_repository ≡ []
no_haves =
    ap (λ es. take 256 (once [] (map (λ e. e.1) es ++ option_to_list (head_value empty_repository)))) (no_entries {X = Id})
    ∙ ap (λ v. take 256 (once [] ([] ++ option_to_list v))) (get-empty (slice_cmp nat_cmp) (branch main))

module _ (here : Setting) where
  abbrev fmt : Format
  fmt = here.fmt

  abbrev wire : Wire fmt
  wire = here.wire

  abbrev f : Facts fmt wire here.path here.content here.tree here.commit here.author here.message
  f = here.facts

  abbrev t : Id
  t = fmt.name_of here.tree

  abbrev x : Id
  x = fmt.name_of here.commit

  abbrev index : Index
  index = index_with fmt here.path here.content

  abbrev staged : Objects
  staged = stores.staged here

  abbrev all : Objects
  all = stores.all here

  closed : (at : Lookup) → stores.Finds here at → IsClosed fmt at x
  closed at finds = stores.closed here at finds

  history : (at : Lookup) → stores.Finds here at → HasHistory fmt at x
  history at finds = stores.history here at finds

  all_reached : (y : Id) (o : Object) → get all y ≡ Some o → Reaches (Links fmt (stored all)) x y
  all_reached y o g = stores.all_reached here (stored all) (stores.found here) y o g

  -- ---- repositories of the first clone: with the file staged, with the commit on main, and where it knows that of the shared node

  abbrev pub staging : Repository
  staging = record { objects = staged; refs = empty; head = empty_repository.head; index = index }

  abbrev pub on_main : Repository
  on_main = record { objects = all; refs = one_ref (branch main) x; head = empty_repository.head; index = index }

  abbrev pub knowing : Repository
  knowing = record { objects = all; refs = insert (one_ref (branch main) x) (tracking main) x; head = empty_repository.head; index = index }

  -- ---- of the shared node: with the objects alone, and with main; of the second clone, once it has fetched

  abbrev pub migrated : Repository
  migrated = with_objects empty_repository all

  abbrev pub served : Repository
  served = record { objects = all; refs = one_ref (branch main) x; head = empty_repository.head; index = empty }

  abbrev pub fetched : Repository
  fetched = record { objects = all; refs = one_ref (tracking main) x; head = empty_repository.head; index = empty }

  main_is : get on_main.refs (branch main) ≡ Some x
  main_is = insert_same nat_list_cmp_total bytes_same empty (branch main) x

  not_known : get on_main.refs (tracking main) ≡ None
  not_known = insert_other nat_list_cmp_total bytes_same empty (branch main) x (tracking main) (λ e. branch_apart main main (sym e)) ∙ get-empty (slice_cmp nat_cmp) (tracking main)

  nothing_tracked : (y : Id) → IsTrackingValue on_main.refs y → ⊥
  nothing_tracked y v = branch_apart main v.0 (sym (one_alone (branch main) x (tracking v.0) y v.1).0)

  pub head_is : head_value on_main ≡ Some x
  head_is = main_is

  -- ---- the first clone stages a file, commits and pushes

  pub stages : CloneAnswers fmt wire.rules (clone empty_repository Nothing) (Commands (Stage here.path plain_file here.content)) (Did Stored) (clone staging Nothing) None
  stages = clone_obeyed Nothing (quietly Nothing (record { objects = staged; changes = SetIndex index ∷ [] }) Stored) refl
      (f.path_legal, (λ p e g. absurd (none_in_empty (slice_cmp nat_cmp) p e g)), f.file_formed, refl)
      ((staged, all_added staged, refl), refl, refl) refl

  abbrev commit_made : Object → Deed Awaited
  commit_made o =
      quietly Nothing (record { objects = with_object (stores.trees here) (fmt.name_of o) o; changes = head_to empty_repository.head (fmt.name_of o) ∷ [] }) (Made (fmt.name_of o))

  abbrev pub new : Object
  new = new_commit fmt staging t [] here.author here.author here.message

  pub is_new : here.commit ≡ new
  is_new = f.made ∙ ap (λ (v : Option Id). record { kind = Commit; body = fmt.commit_body t (option_to_list v ++ []) here.author here.author here.message }) (sym (get-empty (slice_cmp nat_cmp) (branch main)))

  pub commits : CloneAnswers fmt wire.rules (clone staging Nothing) (Commands (MakeCommit [] here.author here.author here.message)) (Did (Made x)) (clone on_main Nothing) None
  commits = clone_obeyed Nothing (commit_made here.commit) refl
      ((f.line, f.line), (λ m y g. absurd (none_in_empty (slice_cmp nat_cmp) m y g)), tt, ((stores.trees here, t), f.trees, made))
      ((all, stores.made_added here, refl), refl, refl) refl
    where
      made : (wire.rules.fault new None) × (commit_made here.commit ≡ commit_made new)
      made = subst (λ o. (wire.rules.fault o None) × (commit_made here.commit ≡ commit_made o)) is_new (f.commit_formed, refl)

  abbrev item : PushItem
  item = record { id = Some x; name = branch main }

  abbrev pub command : Command
  command = record { old = zero_id; new = x; name = branch main }

  abbrev pub push : Message
  push = Push false None (command ∷ []) all

  pub pushes : CloneAnswers fmt wire.rules (clone on_main Nothing) (Commands (StartPush false (item ∷ []))) (Did Sends) (clone on_main Nothing) (Some push)
  pushes = clone_obeyed Nothing (sending Nothing push) refl (omega arith, items_closed, (command ∷ [], all, (refl, refl, old, tt), carried, refl)) ((all, none_added all, refl), refl, refl) refl
    where
      one_item : (y : Id) → IsItemId (item ∷ []) y → y ≡ x
      one_item y i = ap (λ v. unwrap_or v x) (sym i.2 ∙ all_holds (λ (p : PushItem). p.id ≡ Some x) (item ∷ []) i.0 (refl, tt) i.1)

      items_closed : (y : Id) → IsItemId (item ∷ []) y → IsClosed fmt (stored all) y
      items_closed y i = subst (IsClosed fmt (stored all)) (sym (one_item y i)) (closed (stored all) (stores.found here))

      old : IsOldOf on_main.refs (branch main) zero_id
      old = inl (main, refl, sym (ap (λ v. unwrap_or v zero_id) not_known))

      carried : IsDifference fmt all (IsItemId (item ∷ [])) (IsTrackingValue on_main.refs) all
      carried = record {
        only = λ y o g. (g, (x, (item, (0, omega arith, refl), refl), all_reached y o g), λ r. nothing_tracked r.0 r.1);
        all = λ y o g r not. g;
      }

  -- ---- the push at the shared node

  abbrev pub p0 : OpenPush
  p0 = opened false None (command ∷ []) all

  abbrev pub p1 : OpenPush
  p1 = record p0 { stage = Checked }

  abbrev pub p2 : OpenPush
  p2 = record p0 { stage = Migrated }

  abbrev pub p3 : OpenPush
  p3 = record p0 { commands = record { command = command; verdict = Accepted } ∷ []; stage = Finished }

  abbrev pub l0 : Slots
  l0 = insert empty 0 p0

  abbrev pub l1 : Slots
  l1 = insert l0 0 p1

  abbrev pub l2 : Slots
  l2 = insert l1 0 p2

  abbrev pub l3 : Slots
  l3 = insert l2 0 p3

  abbrev pub l4 : Slots
  l4 = remove l3 0

  pub opens : SharedAnswers fmt wire.rules (up empty_repository empty) (Accept push) (Did (Opened 0)) (up empty_repository l0) None
  opens = obeyed empty (record { effect = no_effect; left = l0; sends = None; reply = Opened 0 }) refl
      (0, record { below = omega arith; free = get-empty nat_cmp 0; lowest = λ n h. absurd (omega arith) }, refl)
      ((empty, none_added empty, refl), refl, refl) refl

  pub checks : SharedAnswers fmt wire.rules (up empty_repository l0) (StepOf 0) (Did (Passed 1)) (up empty_repository l1) None
  checks = obeyed l0 (record { effect = no_effect; left = l1; sends = None; reply = Passed 1 }) refl (
    p0,
    put empty p0,
    inl (
      p1,
      (
        record { command = command; verdict = Passing } ∷ [],
        (refl, (f.legal, (inl (main, refl), (f.not_zero, (closed (over empty all) (stores.found_over here), ((λ _. history (over empty all) (stores.found_over here)), ((λ _. inl refl), tt)))))), tt),
        refl,
        refl,
        refl,
      ),
      refl,
      refl,
    ),
  )
      ((empty, none_added empty, refl), refl, refl) refl

  pub migrates : SharedAnswers fmt wire.rules (up empty_repository l1) (StepOf 0) (Did MigratedAll) (up migrated l2) None
  migrates = obeyed l1 (record { effect = record { objects = all; changes = [] }; left = l2; sends = None; reply = MigratedAll }) refl
      (p1, put l0 p1, inl (p2, (refl, refl, refl), refl, refl))
      ((all, all_added all, refl), refl, refl) refl

  pub updates : SharedAnswers fmt wire.rules (up migrated l2) (StepOf 0) (Did (Updated (branch main) None)) (up served l3) None
  updates = obeyed l2 (record { effect = only_changes (SetRefs ((branch main, x) ∷ []) ∷ []); left = l3; sends = None; reply = Updated (branch main) None }) refl (
    p2,
    put l1 p2,
    inl (
      p3,
      (
        p3.commands,
        SetRefs ((branch main, x) ∷ []) ∷ [],
        singly (record {
          front = [];
          next = record { command = command; verdict = Passing };
          back = [];
          verdict = Accepted;
          before = refl;
          first = refl;
          passing = refl;
          update = (((λ _. get-empty (slice_cmp nat_cmp) (branch main)), ((λ m y g. absurd (none_in_empty (slice_cmp nat_cmp) m y g)), (inl (refl, get-empty (slice_cmp nat_cmp) (branch main)), tt))), refl);
          after = refl;
        }) refl refl,
        refl,
        refl,
      ),
      refl,
      refl,
    ),
  )
      ((all, none_added all, refl), refl, refl) refl

  abbrev pub report : Message
  report = Report None (record { name = branch main; outcome = Ok x } ∷ [])

  pub reports : SharedAnswers fmt wire.rules (up served l3) (StepOf 0) (Did Sends) (up served l4) (Some report)
  reports = obeyed l3 (record { effect = no_effect; left = l4; sends = Some report; reply = Sends }) refl
      (p3, put l2 p3, inr (record { name = branch main; outcome = Ok x } ∷ [], refl, ((refl, inl (refl, refl)), tt), refl))
      ((all, none_added all, refl), refl, refl) refl

  -- ---- tracking refs move

  moves : (refs : Refs) → ((m : RefName) (v : Id) → get refs m ≡ Some v → m ≡ branch main) → get refs (tracking main) ≡ None → MovesBranch fmt (stored all) refs (branch main) x (tracking main)
  moves refs alone none = record {
    name = main;
    branch_is = refl;
    tracking_is = refl;
    legal = f.legal;
    fits = f.fits;
    free = λ m v g c. branch_conflict main main (subst (λ n. Conflicts n (tracking main)) (alone m v g) c);
    good = (closed (stored all) (stores.found here), history (stored all) (stores.found here));
    forward = inl none;
  }

  pub tracks : CloneAnswers fmt wire.rules (clone on_main Nothing) (Receive report) (Did (Reported 1 [])) (clone knowing Nothing) None
  tracks = clone_obeyed Nothing (quietly Nothing (only_changes (SetRefs ((tracking main, x) ∷ []) ∷ [])) (Reported 1 [])) refl
      (SetRefs ((tracking main, x) ∷ []) ∷ [], inl (tracking main, [], moves on_main.refs (λ m v g. (one_alone (branch main) x m v g).0) not_known, refl, refl), refl)
      ((all, none_added all, refl), refl, refl) refl

  -- ---- the shared node fails, and restarts

  abbrev pub down : SharedNode
  down = record { repository = served; live = None }

  pub fails : SharedAnswers fmt wire.rules (up served l4) (Accept push) (Fault Device) down None
  fails = faulted l4 Device refl (λ e. absurd (cc)) refl refl refl

  pub restarts : SharedAnswers fmt wire.rules down Open (Did Stored) (up served empty) None
  restarts = restarted refl (refl, refl) refl

  -- ---- the second clone fetches

  abbrev pub advert : Message
  advert = Advert (head_value served) served.refs

  abbrev pub want : Message
  want = Want (x ∷ []) (haves_of empty_repository)

  abbrev pub pack : Message
  pack = Pack None all

  pub asks : CloneAnswers fmt wire.rules (clone empty_repository Nothing) (Commands StartFetch) (Did Sends) (clone empty_repository AnAdvert) (Some ListRefs)
  asks = clone_obeyed Nothing (sending AnAdvert ListRefs) refl refl ((empty, none_added empty, refl), refl, refl) refl

  pub lists : SharedAnswers fmt wire.rules (up served empty) (Accept ListRefs) (Did Sends) (up served empty) (Some advert)
  lists = obeyed empty (record { effect = no_effect; left = empty; sends = Some advert; reply = Sends }) refl refl ((all, none_added all, refl), refl, refl) refl

  not_closed : ¬ IsClosed fmt (stored empty) x
  not_closed c = let there = c.there x ([], refl) in none_in_empty (slice_cmp nat_cmp) x there.0 there.1

  pub wants : CloneAnswers fmt wire.rules (clone empty_repository AnAdvert) (Receive advert) (Did Sends) (clone empty_repository (APack (x ∷ []) served.refs)) (Some want)
  wants = clone_obeyed AnAdvert (sending (APack (x ∷ []) served.refs) want) refl (refl, x ∷ [], open_ids, inl (some, refl)) ((empty, none_added empty, refl), refl, refl) refl
    where
      some : x ∷ [] ≢ []
      some e = absurd (cc)

      open_ids : AreOpen fmt (stored empty) [] (entries served.refs) (x ∷ [])
      open_ids = subst (λ es. AreOpen fmt (stored empty) [] es (x ∷ [])) (sym (entries_of_one (branch main) x)) (inr (not_closed, in_none x, [], refl, refl))

  is_ours : IsOurs fmt served x
  is_ours = (x, (branch main, main_is), ([], refl))

  no_have : (y : Id) → Contains (haves_of empty_repository) y → ⊥
  no_have y c = in_none y (subst (λ ys. Contains ys y) no_haves c)

  pub packs : SharedAnswers fmt wire.rules (up served empty) (Accept want) (Did Sends) (up served empty) (Some pack)
  packs = obeyed empty (record { effect = no_effect; left = empty; sends = Some pack; reply = Sends }) refl
      ((is_ours, tt), (None, all, subst (λ hs. IsFirstCounted fmt served hs None) (sym no_haves) refl, packed, refl))
      ((all, none_added all, refl), refl, refl) refl
    where
      packed : IsDifference fmt all (Contains (x ∷ [])) (λ h. Contains (haves_of empty_repository) h × IsOurs fmt served h) all
      packed = record {
        only = λ y o g. (g, (x, (0, omega arith, refl), all_reached y o g), λ r. no_have r.0 r.1.0);
        all = λ y o g r not. g;
      }

  abbrev at : Lookup
  at = over empty all

  pub takes : CloneAnswers fmt wire.rules (clone empty_repository (APack (x ∷ []) served.refs)) (Receive pack) (Did (Moved 1 0)) (clone fetched Nothing) None
  takes = clone_obeyed (APack (x ∷ []) served.refs) (quietly Nothing (record { objects = all; changes = SetRefs ((tracking main, x) ∷ []) ∷ [] }) (Moved 1 0)) refl
      (x ∷ [], served.refs, refl, wanted, moved)
      ((all, all_added all, refl), refl, refl) refl
    where
      wanted : (y : Id) → Contains (x ∷ []) y → IsClosed fmt at y
      wanted y c = subst (IsClosed fmt at) (sym (in_one x y c)) (closed at (stores.found_over here))

      moved : MovesToAdvert fmt empty_repository at served.refs all (quietly Nothing (record { objects = all; changes = SetRefs ((tracking main, x) ∷ []) ∷ [] }) (Moved 1 0))
      moved = record {
        changes = SetRefs ((tracking main, x) ∷ []) ∷ [];
        open_ids = [];
        moves = subst (λ es. Moves (MovesAny fmt at) empty es (SetRefs ((tracking main, x) ∷ []) ∷ [])) (sym (entries_of_one (branch main) x)) (inl (tracking main, [], inl to_main, refl, refl));
        rest = subst (λ es. AreOpen fmt at [] es []) (sym (entries_of_one (branch main) x)) (inl (inl (closed at (stores.found_over here)), refl));
        deed = refl;
      }
        where
          to_main : MovesBranch fmt at empty (branch main) x (tracking main)
          to_main = record {
            name = main;
            branch_is = refl;
            tracking_is = refl;
            legal = f.legal;
            fits = f.fits;
            free = λ m v g. absurd (none_in_empty (slice_cmp nat_cmp) m v g);
            good = (closed at (stores.found_over here), history at (stores.found_over here));
            forward = inl (get-empty (slice_cmp nat_cmp) (tracking main));
          }

  -- ---- questions, and a prune that finds nothing to take away

  knowing_head : head_value knowing ≡ Some x
  knowing_head = insert_other nat_list_cmp_total bytes_same (one_ref (branch main) x) (tracking main) x (branch main) (branch_apart main main) ∙ main_is

  pub compares : CloneAnswers fmt wire.rules (clone knowing Nothing) (AsksClone (Compare (codes "HEAD") (codes "@"))) (Did Same) (clone knowing Nothing) None
  compares = clone_asked Nothing (Compare (codes "HEAD") (codes "@")) refl refl (Ok x, f.head knowing knowing_head, (Ok x, f.head_too knowing knowing_head, inr (inl (refl, refl)))) refl refl

  -- the only ref conflicts with none
  served_apart : AreApart served.refs
  served_apart m n v w g h c =
      let here : (m ≡ branch main) × (v ≡ x) = one_alone (branch main) x m v g in
      let there : (n ≡ branch main) × (w ≡ x) = one_alone (branch main) x n w h in
      no_conflict (branch main) (subst (λ (k : RefName). Conflicts k (branch main)) here.0 (subst (λ (k : RefName). Conflicts m k) there.0 c))

  pub packs_refs : SharedAnswers fmt wire.rules (up served empty) (Asks PackRefs) (Did Stored) (up served empty) None
  packs_refs = asked empty PackRefs refl refl (inl (served_apart, refl)) refl refl

  -- what a prune keeps is there
  needed_there : (y : Id) → IsNeeded fmt served empty y → (o : Object) × (get all y ≡ Some o)
  needed_there y (by_root r (inl ref) path) =
      (closed (stored all) (stores.found here)).there y (subst (λ z. Reaches (Links fmt (stored all)) z y) (one_alone (branch main) x ref.0 r ref.1).1 path)
  needed_there y (by_root r (inr (inl head)) path) = absurd (cc)
  needed_there y (by_root r (inr (inr entry)) path) = absurd (none_in_empty (slice_cmp nat_cmp) entry.0 entry.1 entry.2)
  needed_there y (by_push k p j is c v path) = absurd (none_in_empty nat_cmp k p is)

  pub prunes : SharedAnswers fmt wire.rules (up served empty) Prune (Did (Removed 0)) (up served empty) None
  prunes = pruned empty refl refl ((λ y. kept y (get all y) refl), refl, refl, ap Removed none_less) refl
    where
      none_less : 0 ≡ len all - len all
      none_less = omega arith

      kept : (y : Id) (a : Option Object) → get all y ≡ a → (IsNeeded fmt served empty y × (get all y ≡ get all y)) ⊎ ((¬ IsNeeded fmt served empty y) × (get all y ≡ None))
      kept y None e = inr ((λ n. let there = needed_there y n in let g = there.1 in cc), e)
      kept y (Some o) e = inl (by_root x (inl (branch main, main_is)) (all_reached y o e), refl)
