-- From the refs that followed to what the machine's clone does of a message: done whole, cut short, or not yet begun.
use Rattle.std.proofs.Common.{◌≡◌, ℕ, List, length, take, None, inr, refl, sym, ap, subst}
use Rattle.std.specs.FinMap.{empty}
use Rattle.vc_files.specs.FileMap.{FileMap}
use Rattle.vc_model.specs.Clone.{Awaited, Moves, Receives, quietly}
use Rattle.vc_model.specs.Message.{Message}
use Rattle.vc_model.specs.Node.{Reply}
use Rattle.vc_model.specs.Object.{Lookup, Objects, stored}
use Rattle.vc_model.specs.Repository.{AllAdded, Change, Done, Effect, IsSound, Repository, StopsWithin, changed_all, only_changes, with_objects}
use Rattle.vc_model.proofs.Maps.{none_added}
use Rattle.vc_rules.specs.Git.{git}
use Rattle.vc_rules.specs.OpenPushes.{HoldsContent}
use Rattle.vc_exchange.specs.Deeds.{ChangesAt, IsCutShort, IsReceived}
use Rattle.vc_exchange.specs.Deeds.IsCutShort.{at_first, within}
use Rattle.vc_tracking.specs.Moving.{AreFrontMoved, AreMoved, MovesBy, MovesSome, Told, machine_refs, rule_of}
use Rattle.vc_tracking.specs.declared.moving.Followed.{Followed}
use Rattle.vc_tracking.proofs.SetRefs.{set_front, set_head, set_index}

-- ---- effects
pub done_with : (r : Repository) (s after : Objects) (cs : List Change) → AllAdded r.objects s after → Done r (record { objects = s; changes = cs }) (changed_all cs (with_objects r after))
done_with r s after cs added = (after, added, refl)

pub stops_with : (r : Repository) (s after : Objects) (cs : List Change) (k : ℕ) → AllAdded r.objects s after → StopsWithin r (record { objects = s; changes = cs }) (changed_all (take k cs) (with_objects r after))
stops_with r s after cs k added = inr (after, k, added, refl)

pub done_changes : (r : Repository) (cs : List Change) → Done r (only_changes cs) (changed_all cs r)
done_changes r cs = done_with r empty r.objects cs (none_added r.objects)

-- ---- deeds
-- Objects are added, of which `after` holds all, and then refs follow what is told. Where nothing is added, `s` is empty, `after`
-- is what is there, `added` is `none_added _` and `is` is `refl`; else `is` is `all_added_is` of the model. Over a sound repository
-- what was known is so, and the machine's clone may do it.
module _ (followed : Followed) (told : List Told) (r : Repository) (s after : Objects) (added : AllAdded r.objects s after) (at : Lookup) (is : stored after ≡ at) (awaits : Awaited) (m : Message) (left : Awaited) (reply : ℕ → Reply) where
  -- the machine's clone may do it with these changes
  abbrev pub Takes : Type 0
  Takes = (cs : List Change) → Moves (rule_of followed git at) r.refs (machine_refs told) cs → Receives git r awaits m (quietly left (record { objects = s; changes = cs }) (reply (length cs)))

  module _ (known : Type 0) (sound : IsSound git r → known) (takes : IsSound git r → Takes) where
    received_by : (cs : List Change) → (known → MovesBy followed (with_objects r after) told cs) → IsSound git r → Receives git r awaits m (quietly left (record { objects = s; changes = cs }) (reply (length cs)))
    received_by cs moves is_sound = takes is_sound cs (subst (λ (l : Lookup). Moves (rule_of followed git l) r.refs (machine_refs told) cs) is (moves (sound is_sound)))

    pub all_received : (new : FileMap) (moved : ℕ) → AreMoved known followed told (with_objects r after) new moved → IsReceived r awaits m new left None (reply moved)
    all_received new moved a = subst (λ (n : ℕ). IsReceived r awaits m new left None (reply n)) (sym a.counted) (
        record {
          effect = record { objects = s; changes = a.changes };
          after = changed_all a.changes (with_objects r after);
          receives = received_by a.changes a.moves;
          done = done_with r s after a.changes added;
          content = a.content;
          head = set_head a.changes (with_objects r after) a.set;
          index = set_index a.changes (with_objects r after) a.set;
        }
        )

    pub front_received : (new : FileMap) → AreFrontMoved known followed told (with_objects r after) new → IsCutShort r awaits m new
    front_received new a = within (
        record {
          deed = quietly left (record { objects = s; changes = a.changes }) (reply (length a.changes));
          after = changed_all (take a.done a.changes) (with_objects r after);
          receives = received_by a.changes a.moves;
          stops = stops_with r s after a.changes a.done added;
          content = a.content;
          head = set_head (take a.done a.changes) (with_objects r after) (set_front a.done a.changes a.set);
          index = set_index (take a.done a.changes) (with_objects r after) (set_front a.done a.changes a.set);
        }
        )

    pub some_received : (known → MovesSome followed told (with_objects r after)) → IsSound git r → ChangesAt r awaits m
    some_received some is_sound =
        let h = some (sound is_sound) in
        (quietly left (record { objects = s; changes = h.0 }) (reply (length h.0)), received_by h.0 (λ _. h.1) is_sound, λ none. h.2 (ap (λ (e : Effect). e.changes) none))

-- nothing is done yet
pub none_received : (old new : FileMap) (r : Repository) (awaits : Awaited) (m : Message) → new ≡ old → HoldsContent old r → IsCutShort r awaits m new
none_received old new r awaits m same p = at_first (subst (λ (content : FileMap). HoldsContent content r) (sym same) p)
