-- The deed of a clone that takes a pack, as the machine has it: done whole, or cut short.
use Rattle.std.proofs.Common.{◌≡◌, inl, inr, ℕ, List, [], ◌∷◌, ◌++◌, length, take, map, Option, None, Ok, refl, sym, subst}
use Rattle.std.specs.Prelude.{Contains, codes, option_map}
use Rattle.std.specs.FinMap.{get}
use Rattle.std.proofs.lemmas.List.{length-map}
use Rattle.vc_pack.specs.AnswerFault.{IsRefusedPack}
use Rattle.vc_pack.specs.declared.fault.AnswerFault.{AnswerFault}
use Rattle.vc_pack.specs.declared.fault.AnswerFault.TheVariants as answer
use Rattle.vc_files.specs.FileMap.{FileMap, SameOutside}
use Rattle.vc_format.specs.Git.{bytes_of_id, id_of_bytes}
use Rattle.vc_object_map.specs.Graph as graph
use Rattle.vc_graph.specs.Incomplete.{IsFirstIncomplete}
use Rattle.vc_object_map.specs.Overlay.{with_carried}
use Rattle.vc_graph.specs.declared.fault.GraphFault.TheVariants as of_graph
use Rattle.vc_model.specs.Clone.{AreOpen, Moves, MovesAny, Receives, ReceivesNot, quietly}
use Rattle.vc_model.specs.Clone.Awaited.{Nothing}
use Rattle.vc_model.specs.Message.{Message}
use Rattle.vc_model.specs.Message.Message.{Pack}
use Rattle.vc_model.specs.Node.Reply.{Moved}
use Rattle.vc_model.specs.Object.{Id, Lookup, Objects, over, stored}
use Rattle.vc_model.specs.Reach.{IsClosed}
use Rattle.vc_model.specs.Refs.{RefName, Refs}
use Rattle.vc_model.specs.Repository.{Change, IsSound, Repository, changed_all, with_objects}
use Rattle.vc_object.specs.Decoding.{StoredObject}
use Rattle.vc_object.specs.ObjectMap.{links_in}
use Rattle.vc_object.specs.declared.id.ObjectId.{ObjectId}
use Rattle.vc_rules.proofs.JoinLemmas.{joined, joined_all}
use Rattle.vc_rules.specs.Git.{git}
use Rattle.vc_rules.specs.OpenPushes.{AreBrought, HoldsContent}
use Rattle.vc_push_rules.specs.Carrying.{objects_in}
use Rattle.vc_object_map.specs.Store.{objects}
use Rattle.vc_object_map.specs.declared.faults.StoreFault.{StoreFault}
use Rattle.vc_object_map.specs.declared.faults.StoreFault.TheVariants as of_store
use Rattle.vc_files.specs.declared.faults.Fault.{Fault}
use Rattle.vc_tracking.specs.Faults.{BlamesFiles, from_answer, from_store}
use Rattle.vc_tracking.specs.declared.fault.ExchangeFault.{ExchangeFault}
use Rattle.vc_exchange.specs.Deeds.{IsCutShort, IsReceived}
use Rattle.vc_exchange.specs.Deeds.IsCutShort.{within}
use Rattle.vc_tracking.specs.Moving.{AreFrontMoved, AreMoved, MovesBy, Told, machine_refs, rule_of}
use Rattle.vc_exchange.specs.Receiving.{AreRefs, BlamesPack, awaited_pack}
use Rattle.vc_tracking.specs.Storing.{AreSomeStored}
use Rattle.vc_exchange.specs.Wanting.{AreOpenTold}
use Rattle.vc_tracking.specs.declared.fault.ExchangeFault.TheVariants as exchange
use Rattle.vc_tracking.specs.declared.moving.Followed.TheVariants.{All}
use Rattle.vc_tracking.proofs.MovingDecisions.{Decided, contained_first, contained_later, decided_contains}
use Rattle.vc_tracking.proofs.MovingFronts.{all_moves}
use Rattle.vc_tracking.proofs.MovingPaths.{decided_closed, same_id}
use Rattle.vc_tracking.proofs.MovingRules.{decided_move}
use Rattle.vc_tracking.proofs.SetRefs.{moves_set, set_front, set_head, set_index}
use Rattle.vc_exchange.proofs.PackLemmas.{all_is, seen_all, seen_sound, some_added, some_content, some_of, want_open, wants_closed}

take_zero : (cs : List Change) → take 0 cs ≡ []
take_zero [] = refl
take_zero (c ∷ cs) = refl

-- ---- the ids that stay open
open_all : (s : Objects) (seen : List Id) (rs : List (RefName × Id)) → (ids : List Id) × AreOpen git (stored s) seen rs ids
open_all s seen [] = ([], refl)
open_all s seen (q ∷ qs) = by (decided_closed git s q.1) (decided_contains same_id seen q.1) (open_all s seen qs) (open_all s (q.1 ∷ seen) qs)
  where
    by : Decided (IsClosed git (stored s) q.1) → Decided (Contains seen q.1) → (ids : List Id) × AreOpen git (stored s) seen qs ids → (ids : List Id) × AreOpen git (stored s) (q.1 ∷ seen) qs ids
        → (ids : List Id) × AreOpen git (stored s) seen (q ∷ qs) ids
    by (inl closed) among rest more = (rest.0, inl (inl closed, rest.1))
    by (inr not) (inl there) rest more = (rest.0, inl (inr there, rest.1))
    by (inr not) (inr none) rest more = (q.1 ∷ more.0, inr (not, none, more.0, refl, more.1))

-- ---- the deed
module _ (old : FileMap) (r : Repository) (held : HoldsContent old r) (brought : List StoredObject) (s : Objects) (are : AreBrought (Ok brought) s) where
  -- the changes, which are decided
  changes_all : (rs : List (RefName × Id)) → (cs : List Change) × Moves (rule_of All git (stored (joined r.objects s))) r.refs rs cs
  changes_all rs = all_moves (rule_of All git (stored (joined r.objects s)))
      (λ refs n x. decided_move (with_carried (objects old) (objects_in brought)) (joined r.objects s) (seen_all old r held brought s are) (seen_sound old r held brought s are) (λ q. option_map id_of_bytes (get refs q)) refs (λ q. refl) All n x)
      rs r.refs

  module _ (m : Message) (ack : Option Id) (is : m ≡ Pack ack s) (wants : List ObjectId) (refs : Refs) where
    -- a want that is incomplete is refused
    pub declined : (id : ObjectId) → IsFirstIncomplete (links_in (with_carried (objects old) (objects_in brought))) wants id → ReceivesNot git r (awaited_pack wants refs) m 92
    declined id first =
        subst (λ (n : Message). ReceivesNot git r (awaited_pack wants refs) n 92) (sym is)
        (refl, id.0, among wants first.before first.after id first.place, want_open old r held brought s are id first.incomplete.missing first.incomplete.reaches first.incomplete.absent)
      where
        placed : (before after : List ObjectId) (id : ObjectId) → Contains (map bytes_of_id (before ++ id ∷ after)) id.0
        placed [] after id = contained_first id.0 (map bytes_of_id after)
        placed (b ∷ before) after id = contained_later b.0 (map bytes_of_id (before ++ id ∷ after)) id.0 (placed before after id)

        among : (wants before after : List ObjectId) (id : ObjectId) → wants ≡ before ++ id ∷ after → Contains (map bytes_of_id wants) id.0
        among wants before after id place = subst (λ (l : List ObjectId). Contains (map bytes_of_id l) id.0) (sym place) (placed before after id)

    module _ (told : List Told) (same : AreRefs refs told) (closed : IsSound git r → graph.IsClosedUnder (links_in (with_carried (objects old) (objects_in brought))) wants) where
      receives : IsSound git r → (changes : List Change) → MovesBy All (with_objects r (joined r.objects s)) told changes → (ids : List Id) → AreOpen git (stored (joined r.objects s)) [] (machine_refs told) ids
          → Receives git r (awaited_pack wants refs) m (quietly Nothing (record { objects = s; changes = changes }) (Moved (length changes) (length ids)))
      receives sound changes moves ids still =
          let there : stored (joined r.objects s) ≡ over r.objects s = all_is old r held brought s are in
          let moves_over : Moves (MovesAny git (over r.objects s)) r.refs (machine_refs told) changes = subst (λ (at : Lookup). Moves (MovesAny git at) r.refs (machine_refs told) changes) there moves in
          let open_over : AreOpen git (over r.objects s) [] (machine_refs told) ids = subst (λ (at : Lookup). AreOpen git at [] (machine_refs told) ids) there still in
          subst (λ (n : Message). Receives git r (awaited_pack wants refs) n (quietly Nothing (record { objects = s; changes = changes }) (Moved (length changes) (length ids)))) (sym is) (
            map bytes_of_id wants,
            refs,
            refl,
            wants_closed old r held brought s are wants (closed sound),
            record {
              changes = changes;
              open_ids = ids;
              moves = subst (λ (l : List (RefName × Id)). Moves (MovesAny git (over r.objects s)) r.refs l changes) (sym same) moves_over;
              rest = subst (λ (l : List (RefName × Id)). AreOpen git (over r.objects s) [] l ids) (sym same) open_over;
              deed = refl;
            },
          )

      module _ (known : Type 0) (so : IsSound git r → known) where
        -- all is done
        pub pack_taken : (new : FileMap) (n : ℕ) (ids : List ObjectId) → AreMoved known All told (with_objects r (joined r.objects s)) new n → (IsSound git r → AreOpenTold (with_objects r (joined r.objects s)) told ids)
            → IsReceived r (awaited_pack wants refs) m new Nothing None (Moved n (length ids))
        pack_taken new n ids moved still =
            let deed = λ (sound : IsSound git r). receives sound moved.changes (moved.moves (so sound)) (map bytes_of_id ids) (still sound) in
            let counted : IsSound git r → Receives git r (awaited_pack wants refs) m (quietly Nothing (record { objects = s; changes = moved.changes }) (Moved n (length (map bytes_of_id ids)))) = λ sound.
            subst (λ (k : ℕ). Receives git r (awaited_pack wants refs) m (quietly Nothing (record { objects = s; changes = moved.changes }) (Moved k (length (map bytes_of_id ids))))) (sym moved.counted) (deed sound) in
            record {
              effect = record { objects = s; changes = moved.changes };
              after = changed_all moved.changes (with_objects r (joined r.objects s));
              receives = λ sound. subst (λ (k : ℕ). Receives git r (awaited_pack wants refs) m (quietly Nothing (record { objects = s; changes = moved.changes }) (Moved n k))) (length-map ids bytes_of_id) (counted sound);
              done = (joined r.objects s, joined_all r.objects s, refl);
              content = moved.content;
              head = set_head moved.changes (with_objects r (joined r.objects s)) moved.set;
              index = set_index moved.changes (with_objects r (joined r.objects s)) moved.set;
            }

        -- all is stored, and a front of the refs moved
        pub pack_moving : (new : FileMap) → AreFrontMoved known All told (with_objects r (joined r.objects s)) new → IsCutShort r (awaited_pack wants refs) m new
        pack_moving new f =
            let still = open_all (joined r.objects s) [] (machine_refs told) in
            within (record {
              deed = quietly Nothing (record { objects = s; changes = f.changes }) (Moved (length f.changes) (length still.0));
              after = changed_all (take f.done f.changes) (with_objects r (joined r.objects s));
              receives = λ sound. receives sound f.changes (f.moves (so sound)) still.0 still.1;
              stops = inr (joined r.objects s, f.done, joined_all r.objects s, refl);
              content = f.content;
              head = set_head (take f.done f.changes) (with_objects r (joined r.objects s)) (set_front f.done f.changes f.set);
              index = set_index (take f.done f.changes) (with_objects r (joined r.objects s)) (set_front f.done f.changes f.set);
            })

      -- all is stored, and none moved
      pub pack_stored : (new : FileMap) → HoldsContent new (with_objects r (joined r.objects s)) → IsCutShort r (awaited_pack wants refs) m new
      pack_stored new content =
          let changes = changes_all (machine_refs told) in
          pack_moving (Unit {0}) (λ _. tt) new (record {
            changes = changes.0;
            done = 0;
            set = moves_set (rule_of All git (stored (joined r.objects s))) (machine_refs told) r.refs changes.0 changes.1;
            moves = λ _. changes.1;
            content = subst (λ (c : List Change). HoldsContent new (changed_all c (with_objects r (joined r.objects s)))) (sym (take_zero changes.0)) content;
          })

      -- some is stored
      pub pack_storing : (new : FileMap) → SameOutside (codes "objects/") old new → AreSomeStored old new brought → IsCutShort r (awaited_pack wants refs) m new
      pack_storing new outside some =
          let still = open_all (joined r.objects s) [] (machine_refs told) in
          let changes = changes_all (machine_refs told) in
          within (record {
            deed = quietly Nothing (record { objects = s; changes = changes.0 }) (Moved (length changes.0) (length still.0));
            after = with_objects r (some_of old r held brought s are new outside);
            receives = λ sound. receives sound changes.0 changes.1 still.0 still.1;
            stops = inl (some_of old r held brought s are new outside, some_added old r held brought s are new outside, refl);
            content = some_content old r held brought s are new outside some;
            head = refl;
            index = refl;
          })

-- ---- refusals
pub judge_blames : (old : FileMap) (brought : List StoredObject) (wants : List ObjectId) (m : Message) (s : Objects) (ack : Option Id) (e : AnswerFault) → AreBrought (Ok brought) s → m ≡ Pack ack s
    → IsRefusedPack old (objects_in brought) wants e → BlamesPack old wants m (from_answer e)
judge_blames old brought wants m s ack (answer.NotOurs id) are is b = absurd b
judge_blames old brought wants m s ack (answer.Incomplete id) are is b = λ r refs held. declined old r held brought s are m ack is wants refs id b
judge_blames old brought wants m s ack (answer.Refs fault) are is b = absurd b
judge_blames old brought wants m s ack (answer.Graph (of_graph.Missing id)) are is b = absurd b
judge_blames old brought wants m s ack (answer.Graph (of_graph.Store (of_store.BadObject fault))) are is b = absurd b
judge_blames old brought wants m s ack (answer.Graph (of_graph.Store (of_store.Absent id))) are is b = absurd b
judge_blames old brought wants m s ack (answer.Graph (of_graph.Store (of_store.Damaged id))) are is b = b.1
judge_blames old brought wants m s ack (answer.Graph (of_graph.Store (of_store.Fault fault))) are is b = tt
judge_blames old brought wants m s ack (answer.Fault fault) are is b = tt

-- none of these two is a want that is incomplete
pub store_other : (e : StoreFault) (id : ObjectId) → from_store e ≡ exchange.Incomplete id → ⊥
store_other (of_store.BadObject fault) id h = cc h
store_other (of_store.Absent absent) id h = cc h
store_other (of_store.Damaged damaged) id h = cc h
store_other (of_store.Fault fault) id h = cc h

-- what is blamed of files is so of a pack
pub blames_of_pack : (content : FileMap) (wants : List ObjectId) (m : Message) (e : ExchangeFault) → BlamesFiles content e → BlamesPack content wants m e
blames_of_pack content wants m (exchange.Store fault) b = b
blames_of_pack content wants m (exchange.Refs fault) b = b
blames_of_pack content wants m (exchange.Incomplete id) b = absurd b
blames_of_pack content wants m (exchange.Fault fault) b = b

-- none of it is for want of an object
pub never_incomplete : (content : FileMap) (e : ExchangeFault) (id : ObjectId) → BlamesFiles content e → e ≡ exchange.Incomplete id → ⊥
never_incomplete content e id why is = subst (λ (x : ExchangeFault). BlamesFiles content x) is why

pub fault_other : (fault : Fault) (id : ObjectId) → exchange.Fault fault ≡ exchange.Incomplete id → ⊥
fault_other fault id h = cc h
