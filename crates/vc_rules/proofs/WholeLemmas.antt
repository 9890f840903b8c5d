-- In a sound repository all is there that the values of its refs reach.
use Rattle.std.proofs.Common.{◌≡◌, inl, inr, ℕ, List, Some, false, ap, sym, ◌∙◌, true≢false}
use Rattle.std.specs.FinMap.{get}
use Rattle.vc_files.specs.FileMap.{FileMap}
use Rattle.vc_object_map.specs.Graph.{IsClosed}
use Rattle.vc_model.specs.Object.{stored}
use Rattle.vc_model.specs.Refs.{IsTag}
use Rattle.vc_model.specs.Repository.{IsSound, Repository}
use Rattle.vc_object.specs.ObjectMap.{links_in}
use Rattle.vc_object.specs.declared.id.ObjectId.{ObjectId}
use Rattle.vc_refs.specs.Refs.{refs}
use Rattle.vc_rules.specs.Git.{git}
use Rattle.vc_rules.specs.OpenPushes.{HoldsContent}
use Rattle.vc_rules.proofs.ReachLemmas.{closed_to, history_to}
use Rattle.vc_rules.proofs.RefLemmas.{that_id}
use Rattle.vc_rules.proofs.SoundLemmas.{objects_sound}
use Rattle.vc_push_rules.specs.Known.{AreRefsWhole}
use Rattle.vc_push_rules.specs.Verdict.{HasHistory, is_tag}
use Rattle.vc_object_map.specs.Store.{objects}

pub refs_whole : (content : FileMap) (r : Repository) → HoldsContent content r → IsSound git r → AreRefsWhole content
refs_whole content r held sound = record { closed = closed; history = history }
  where
    value : (name : List ℕ) (id : ObjectId) → refs content name ≡ Some id → get r.refs name ≡ Some id.0
    value name id h = that_id (get r.refs name) id.0 (sym (held.refs_are name) ∙ h)

    closed : (name : List ℕ) (id : ObjectId) → refs content name ≡ Some id → IsClosed (links_in (objects content)) id
    closed name id h = closed_to (objects content) (stored r.objects) held.objects_are id.0 ((sound.refs name id.0 (value name id h)).closed)

    no_tag : (name : List ℕ) → is_tag name ≡ false → IsTag name → ⊥
    no_tag name is tag = true≢false (sym (ap is_tag tag.1) ∙ is)

    history : (name : List ℕ) (id : ObjectId) → is_tag name ≡ false → refs content name ≡ Some id → HasHistory (objects content) id
    history name id is h = elim ((sound.refs name id.0 (value name id h)).kind) [
      | inl tag ↦ absurd (no_tag name is tag)
      | inr kept ↦ history_to (objects content) (stored r.objects) held.objects_are (objects_sound content) id.0 kept.1
    ]
