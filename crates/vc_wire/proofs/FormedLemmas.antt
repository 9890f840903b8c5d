-- Each body of a message that is read is one of its kind.
use Rattle.std.proofs.Common.{◌≡◌, ◌≤◌, ℕ, Bool, true, false, cond, List, ◌∷◌, Option, Some, None, Ok, ap, sym, ◌∙◌, subst, []}
use Rattle.std.specs.Prelude.{find, length, not}
use Rattle.std.specs.Ordering.{is_eq}
use Rattle.std.proofs.lemmas.Option.{none-some, same_Some}
use Rattle.vc_fetch.specs.Pack.{PackText, SpellsPack, is_object}
use Rattle.vc_format.specs.Git.{id_of_bytes}
use Rattle.vc_message.proofs.BodyFaults.{object_is}
use Rattle.vc_message.proofs.MachineObjects.{brought_one}
use Rattle.vc_message.specs.AnyMessage.{MessageText, a_list, a_pack, a_push, a_report, a_want, an_advert, an_error, SpellsMessage}
use Rattle.vc_message.specs.Machine.{Reads, TextOf}
use Rattle.vc_model.specs.Message.{Message}
use Rattle.vc_model.specs.Object.{Objects}
use Rattle.vc_model.specs.Rules.{AreFormed, IsFormedMessage}
use Rattle.vc_object.specs.Decoding.{StoredObject}
use Rattle.vc_object.specs.ObjectId.{id_cmp}
use Rattle.vc_object.specs.declared.id.ObjectId.{ObjectId}
use Rattle.vc_pkt.proofs.CarriedOnce.{carried_named}
use Rattle.vc_pkt.specs.Carried.{object_named, stored_name, with_objects}
use Rattle.vc_pkt.specs.Line.{LineText}
use Rattle.vc_pkt.specs.ObjectStream.{IsStream, is_any}
use Rattle.vc_push.specs.Push.{Carried, PushText, SpellsCarried, SpellsPush, carried_or, only_deletes}
use Rattle.vc_rules.specs.Git.{git, stored_of}
use Rattle.vc_rules.specs.OpenPushes.{AreBrought}
use Rattle.vc_values.proofs.GitLaws.{git_rules}

small_found : (T : StoredObject → Bool) (objects : List StoredObject) (lines : List LineText) (id : ObjectId) (o : StoredObject) → IsStream T objects lines → object_named id objects ≡ Some o → length o.body ≤ 16777216
small_found T [] lines id o stream e = absurd (none-some o e)
small_found T (p ∷ ps) lines id o (these, others, first, taken, more, is) e = by (is_eq (id_cmp id (stored_name p))) e (small_found T ps others id o more)
  where
    by : (b : Bool) → cond b (Some p) (object_named id ps) ≡ Some o → (object_named id ps ≡ Some o → length o.body ≤ 16777216) → length o.body ≤ 16777216
    by true e later = subst (λ q. length q.body ≤ 16777216) (same_Some p o e) first.small
    by false e later = later e

-- no body that is brought is over the limit
abbrev AreSmall : Carried → Type 0
AreSmall c = (objects : List StoredObject) (id : ObjectId) (o : StoredObject) → c ≡ Ok objects → object_named id objects ≡ Some o → length o.body ≤ 16777216

same_all : (xs ys : List StoredObject) → ◌≡◌ {A = Carried} (Ok xs) (Ok ys) → xs ≡ ys
same_all xs ys e = cc e

small_set : (T : StoredObject → Bool) (objects : List StoredObject) (lines : List LineText) → IsStream T objects lines → (set : List StoredObject) (id : ObjectId) (o : StoredObject) → set ≡ with_objects [] objects → object_named id set ≡ Some o → length o.body ≤ 16777216
small_set T objects lines stream set id o once e = small_found T objects lines id o stream (sym (carried_named id objects) ∙ ap (object_named id) (sym once) ∙ e)

small_pack : (t : PackText) (lines : List LineText) → SpellsPack t lines → AreSmall (Ok t.objects)
small_pack t lines s objects id o all e = small_set is_object s.stream.objects s.others s.stream.stream objects id o (sym (same_all t.objects objects all) ∙ s.stream.once) e

from_all : (found : Option StoredObject) (objects set : List StoredObject) → carried_or found objects ≡ Ok set → set ≡ with_objects [] objects
from_all None objects set e = sym (same_all (with_objects [] objects) set e)
from_all (Some bad) objects set e = absurd (cc e)

small_carried : (deletes : Bool) (c : Carried) (lines : List LineText) → SpellsCarried deletes c lines → AreSmall c
small_carried true c lines (none, is) objects id o all e = absurd (none-some o (ap (object_named id) (same_all [] objects (sym is ∙ all)) ∙ e))
small_carried false c lines (came, stream, is) objects id o all e = small_set is_any came lines stream objects id o (from_all (find (λ q. not (is_object q)) came) came objects (sym is ∙ all)) e

small_push : (t : PushText) (lines : List LineText) → SpellsPush t lines → AreSmall t.carried
small_push t lines s = small_carried (only_deletes t.commands) t.carried s.stream s.carries

-- ---- each is of its kind
formed_set : (c : Carried) (s : Objects) → AreBrought c s → AreSmall c → AreFormed git git_rules s
formed_set c s brought small x o e =
    let one = brought_one c s x o brought e in
    object_is (stored_of o) (small one.objects (id_of_bytes x) (stored_of o) one.all one.found) one.passes

formed_text : (t : MessageText) (lines : List LineText) (m : Message) → SpellsMessage t lines → TextOf m t → IsFormedMessage git git_rules m
formed_text a_list lines m s a = subst (IsFormedMessage git git_rules) (sym a) tt
formed_text (an_advert t) lines m s a = subst (IsFormedMessage git git_rules) (sym a.is) tt
formed_text (a_want t) lines m s a = subst (IsFormedMessage git git_rules) (sym a) tt
formed_text (a_pack t) lines m s a = subst (IsFormedMessage git git_rules) (sym a.is) (formed_set (Ok t.objects) a.objects a.brought (small_pack t lines s))
formed_text (a_push t) lines m s a = subst (IsFormedMessage git git_rules) (sym a.is) (formed_set t.carried a.objects a.brought (small_push t lines s))
formed_text (a_report t) lines m s a = subst (IsFormedMessage git git_rules) (sym a.is) tt
formed_text (an_error words) lines m s a = subst (IsFormedMessage git git_rules) (sym a) tt

pub read_formed : (bytes : List ℕ) (m : Message) → Reads bytes m → IsFormedMessage git git_rules m
read_formed bytes m a = formed_text a.text a.spelled.0 m a.spelled.2 a.is
