-- A push that is made of a clone's files is the machine's, and is read as it is written.
use Rattle.std.proofs.Common.{◌≡◌, ◌≢◌, ◌<◌, ◌≤◌, ◌⊎◌, ◌==◌, inl, inr, ⊎_elim, ℕ, Bool, true, false, true≢false, cond, nat_eq, List, ◌∷◌, drop, length, get_or, map, Option, Some, None, Result, Ok, Err, Contains, refl, sym, ap, ◌∙◌, subst, arith, []}
use Rattle.std.specs.Prelude.{IsSome, codes, is_some, option_map, unwrap_or}
use Rattle.std.specs.FinMap.{get}
use Rattle.std.specs.List.{All, AllByRecursion, cons_option, flat_map, starts_with}
use Rattle.std.specs.Result.{result_ok}
use Rattle.std.proofs.lemmas.Bool.{and_parts, ltb-false}
use Rattle.std.proofs.lemmas.Bool.Decides.{Decides-eqb, nat_tests}
use Rattle.std.proofs.lemmas.List.{length-map}
use Rattle.std.proofs.lemmas.List.Elements.{Contains-append_cases, Contains-append_right, Contains-push_cases, recursion_from_All}
use Rattle.std.proofs.lemmas.Option.{none-some, same_Some}
use Rattle.std.proofs.lemmas.Slice.Eq.{starts_is}
use Rattle.hex.proofs.HexLemmas.{decode_of-ok, decode_sized-ok, decode_sized-twice}
use Rattle.hex.specs.Hex.{decode_sized}
use Rattle.hex.specs.declared.error.FromHexError.{FromHexError}
use Rattle.vc_pack.proofs.AnswerLemmas.{there_from_links}
use Rattle.vc_sending.specs.SendFault.{IsRefusedPush, IsRefusedSend}
use Rattle.vc_sending.specs.Sending.{AreSent, IsKnown, IsPushOf, command_for, item_ids, known_value, machine_item, machine_items}
use Rattle.vc_sending.specs.SentPush.{DeclinesPush, IsSentPush, SendsPush}
use Rattle.vc_sending.specs.declared.item.PushItem.{PushItem}
use Rattle.vc_sending.specs.declared.send_fault.SendFault.{SendFault}
use Rattle.vc_sending.specs.declared.send_fault.SendFault.TheVariants.{TooMany, Missing, Refs, Graph, Fault}
use Rattle.vc_fetch.proofs.Packs.{ok_object}
use Rattle.vc_fetch.specs.Advert.{IsName}
use Rattle.vc_fetch.specs.ListMessage.{list_lines}
use Rattle.vc_fetch.specs.Pack.{is_object}
use Rattle.vc_fetch.proofs.WrittenAdverts.{zeros_at}
use Rattle.vc_files.specs.FileMap.{FileMap}
use Rattle.vc_format.specs.Git.{bytes_of_id, id_of_bytes}
use Rattle.vc_object_map.specs.Graph as graph
use Rattle.vc_object_map.specs.Graph.{IsClosedUnder}
use Rattle.vc_object_map.specs.Graph.Reaches.{itself}
use Rattle.vc_graph.specs.declared.fault.GraphFault.TheVariants as graph_fault
use Rattle.vc_message.proofs.AnyLaws.{written_so}
use Rattle.vc_rules.proofs.OnceLemmas.{some_once}
use Rattle.vc_message.proofs.MachineTexts.{all_in}
use Rattle.vc_message.specs.AnyMessage.{a_list, a_push}
use Rattle.vc_message.specs.Machine.{IsPush, IsWritten}
use Rattle.vc_model.specs.Clone as machine
use Rattle.vc_model.specs.Clone.{AreCommandsFor, IsItemId, IsOldOf, IsTrackingValue}
use Rattle.vc_model.specs.Message.Message.{ListRefs, Push}
use Rattle.vc_model.specs.Node.{IsDifference, ReachedFrom}
use Rattle.vc_model.specs.Object.{Id, Object, Objects, stored}
use Rattle.vc_model.specs.Object as model
use Rattle.vc_model.specs.Refs.{branch, tracking}
use Rattle.vc_model.specs.Repository.{IsSound, Repository}
use Rattle.vc_object.proofs.IdLemmas.{id_eq-same}
use Rattle.vc_object.specs.Decoding.{StoredObject}
use Rattle.vc_object.specs.Lines.{IsId}
use Rattle.vc_object.specs.Object.{IsObject}
use Rattle.vc_object.specs.ObjectId.{IsSortedByName, id_eq, is_id}
use Rattle.vc_object.specs.ObjectMap.{links_in}
use Rattle.vc_object.specs.declared.id.ObjectId.{ObjectId}
use Rattle.vc_pkt.proofs.CarriedOnce.{each_named}
use Rattle.vc_pkt.specs.Carried.{object_named, stored_name}
use Rattle.vc_pkt.specs.Line.{spelling}
use Rattle.vc_push.specs.Push.{CommandText, IsShort, IsWrittenCarried, IsWrittenCommand, IsWrittenPush, PushText, only_deletes, push_lines, zero_id}
use Rattle.vc_push.specs.PushView.{command_of, commands_of}
use Rattle.vc_push.specs.declared.command.Command.{Command}
use Rattle.vc_refname.specs.RefName.{IsRefName, breaks, is_bad_byte, tracking_name}
use Rattle.vc_refname.specs.declared.fault.NameFault.TheVariants as rules
use Rattle.vc_refs.proofs.RefFileLemmas.{id_in-id_text}
use Rattle.vc_refs.specs.RefFile.{id_in, id_of, id_text, without_lf}
use Rattle.vc_refs.proofs.LayeredLemmas.{ref_whole}
use Rattle.vc_refs.specs.Refs.{refs}
use Rattle.vc_rules.proofs.CarriedLemmas.{each_is_brought}
use Rattle.vc_rules.proofs.ReachLemmas.{closed_from, closed_to, path_from, path_to}
use Rattle.vc_rules.proofs.RefLemmas.{that_id}
use Rattle.vc_rules.proofs.SoundLemmas.{objects_sound}
use Rattle.vc_rules.specs.Git.{git, stored_of}
use Rattle.vc_rules.specs.OpenPushes.{AreBrought, HoldsContent}
use Rattle.vc_rules.specs.Verdicts.{machine_command}
use Rattle.vc_push_rules.proofs.BreakLemmas.{no_break}
use Rattle.vc_object_map.specs.Store.{objects, stored as stored_file}

-- ---- a message that is written is read so
pub written_list : (bytes : List ℕ) → bytes ≡ flat_map spelling list_lines → IsWritten ListRefs bytes
written_list bytes spelled = written_so ListRefs a_list bytes refl tt spelled

-- ---- ids
sized_id : (digits : List ℕ) (id : ObjectId) → decode_sized digits 20 ≡ Ok id.0 → IsId id
sized_id digits id e =
    let long = decode_sized-ok digits 20 id.0 e in
    let ok = decode_of-ok digits id.0 (sym (decode_sized-twice digits 20 long) ∙ e) in
    let sized = ok.2 in
    record { sized = omega (arith, sized, long); bytes = ok.3 }

pub spelled_id : (text : List ℕ) (id : ObjectId) → id_in text ≡ Some id → IsId id
spelled_id text id = by (decode_sized (without_lf text) 20) refl
  where
    by : (r : Result (List ℕ) FromHexError) → decode_sized (without_lf text) 20 ≡ r → option_map id_of (result_ok r) ≡ Some id → IsId id
    by (Ok bytes) is e = sized_id (without_lf text) id (is ∙ ap (λ (i : ObjectId). Ok i.0) (same_Some (id_of bytes) id e))
    by (Err x) is e = absurd (none-some id e)

zero_is_id : IsId zero_id
zero_is_id = record { sized = refl; bytes = λ i. let z = zeros_at 20 i in omega (arith, z) }

-- an id, or zero
id_or_zero : (found : Option ObjectId) → ((id : ObjectId) → found ≡ Some id → IsId id) → IsId (unwrap_or found zero_id)
id_or_zero None all = zero_is_id
id_or_zero (Some id) all = all id refl

known_id : (content : FileMap) (name : List ℕ) → IsId (known_value content name)
known_id content name = by (starts_with nat_eq name (codes "refs/heads/"))
  where
    by : (b : Bool) → IsId (cond b (unwrap_or (refs content (tracking_name name)) zero_id) zero_id)
    by true = id_or_zero (refs content (tracking_name name)) (ref_whole content (tracking_name name))
    by false = zero_is_id

-- what names an object is an id
object_id : (content : FileMap) (id : ObjectId) → IsSome (objects content id) → IsId id
unfolding objects
object_id content id = by (is_id id) refl
  where
    by : (b : Bool) → is_id id ≡ b → IsSome (cond b (result_ok (stored_file content id)) None) → IsId id
    by true valid h = spelled_id (id_text id) id (id_in-id_text id valid)
    by false valid h = absurd (true≢false (sym h))

-- ---- names
differs : (b k : ℕ) → is_bad_byte k ≡ true → is_bad_byte b ≡ false → (b == k) ≡ false
differs b k bad fine = let other : b ≢ k = λ e. true≢false (sym bad ∙ sym (ap is_bad_byte e) ∙ fine) in grind (arith, nat_tests, other)

legal_name : (name : List ℕ) → IsRefName name → IsName name
legal_name name legal = record {
  some = λ none. true≢false (sym (ap (breaks rules.NoSlash) none) ∙ legal rules.NoSlash);
  plain = no_break name (legal rules.BadByte);
}

short_name : (name : List ℕ) → IsRefName name → length name ≤ 65409
short_name name legal = let few = ltb-false 255 (length name) (legal rules.TooLong) in omega (arith, few)

pub short_commands : (commands : List Command) → All (λ c. IsRefName c.name.items) commands → All (λ c. IsShort (command_of c)) commands
short_commands commands legal k d inside = short_name (get_or commands k d).name.items (legal k d inside)

legal_texts : (commands : List Command) → AllByRecursion (λ (c : Command). IsRefName c.name.items) commands → AllByRecursion (λ (c : CommandText). IsRefName c.name) (commands_of commands)
legal_texts [] legal = tt
legal_texts (c ∷ cs) legal = (legal.0, legal_texts cs legal.1)

-- ---- the ids of items
first_given : (found : Option ObjectId) (rest : List ObjectId) (id : ObjectId) → found ≡ Some id → Contains (cons_option found rest) id
first_given None rest id e = absurd (none-some id e)
first_given (Some y) rest id e = (0, omega arith, same_Some y id e)

later_given : (found : Option ObjectId) (rest : List ObjectId) (id : ObjectId) → Contains rest id → Contains (cons_option found rest) id
later_given None rest id h = h
later_given (Some y) rest id h = Contains-append_right (y ∷ []) rest id h

-- the first, or one of the others
first_or_later : (found : Option ObjectId) (rest : List ObjectId) (id : ObjectId) → Contains (cons_option found rest) id → (found ≡ Some id) ⊎ Contains rest id
first_or_later None rest id h = inr h
first_or_later (Some y) rest id h =
    ⊎_elim (λ (first : Contains (y ∷ []) id). inl (ap Some (⊎_elim (λ none. absurd (omega (arith, none.1))) (λ same. same) (Contains-push_cases [] y id first)))) inr
    (Contains-append_cases (y ∷ []) rest id h)

item_more : (item : machine.PushItem) (items : List machine.PushItem) (x : Id) → IsItemId items x → IsItemId (item ∷ items) x
item_more item items x (i, among, is) = (i, Contains-append_right (item ∷ []) items i among, is)

given_item : (items : List PushItem) (id : ObjectId) → Contains (item_ids items) id → IsItemId (machine_items items) id.0
given_item [] id h = absurd (omega (arith, h.1))
given_item (i ∷ is) id h =
    ⊎_elim (λ first. (machine_item i, (0, omega arith, refl), ap (option_map bytes_of_id) first)) (λ later. item_more (machine_item i) (machine_items is) id.0 (given_item is id later))
    (first_or_later i.id (item_ids is) id h)

that_bytes : (found : Option ObjectId) (x : Id) → option_map bytes_of_id found ≡ Some x → found ≡ Some (id_of_bytes x)
that_bytes None x e = absurd (none-some x e)
that_bytes (Some y) x e = ap (option_map id_of_bytes) e

item_given : (items : List PushItem) (x : Id) → IsItemId (machine_items items) x → Contains (item_ids items) (id_of_bytes x)
item_given [] x (i, among, is) = absurd (omega (arith, among.1))
item_given (j ∷ js) x (i, among, is) =
    ⊎_elim (λ (first : Contains (machine_item j ∷ []) i).
    let same : machine_item j ≡ i = ⊎_elim (λ none. absurd (omega (arith, none.1))) (λ same. same) (Contains-push_cases [] (machine_item j) i first) in
    first_given j.id (item_ids js) (id_of_bytes x) (that_bytes j.id x (ap (λ (k : machine.PushItem). k.id) same ∙ is)))
    (λ later. later_given j.id (item_ids js) (id_of_bytes x) (item_given js x (i, later, is)))
    (Contains-append_cases (machine_item j ∷ []) (machine_items js) i among)

-- ---- the objects that are sent
module _ (content : FileMap) (ids : List ObjectId) (set : List StoredObject) (sorted : IsSortedByName (map stored_name set)) (sent : AreSent content ids set) where
  all_are : (P : StoredObject → Type 0) → ((o : StoredObject) → IsObject o.kind o.body → P o) → (os : List StoredObject) → AllByRecursion (λ o. object_named (stored_name o) set ≡ Some o) os → AllByRecursion P os
  all_are P holds [] found = tt
  all_are P holds (o ∷ os) found = (holds o (objects_sound content (stored_name o) o ((sent (stored_name o) o).0 found.0).1), all_are P holds os found.1)

  grammar : AllByRecursion (λ o. is_object o ≡ true) set
  grammar = all_are (λ o. is_object o ≡ true) (λ o sound. sym (ok_object o.kind o.body sound)) set (each_named set sorted)

  small : AllByRecursion (λ o. length o.body ≤ 16777216) set
  small = all_are (λ o. length o.body ≤ 16777216) (λ o sound. sound.size) set (each_named set sorted)

  -- of no ids there are none
  nothing_sent : ids ≡ [] → set ≡ []
  nothing_sent none = by set (each_named set sorted)
    where
      by : (os : List StoredObject) → AllByRecursion (λ o. object_named (stored_name o) set ≡ Some o) os → os ≡ []
      by [] found = refl
      by (o ∷ os) found =
          let reached = ((sent (stored_name o) o).0 found.0).0.0 in
          let root = subst (λ xs. Contains xs reached.root) none reached.is_root in absurd (omega (arith, root.1))

-- ---- the push, as it is written
module _ (content : FileMap) where
  written_commands : (items : List PushItem) → ((id : ObjectId) → Contains (item_ids items) id → IsId id) → AllByRecursion (λ (c : CommandText). IsRefName c.name) (map (command_for content) items)
      → AllByRecursion IsWrittenCommand (map (command_for content) items)
  written_commands [] ids legal = tt
  written_commands (i ∷ is) ids legal = (
    record {
      old = known_id content i.name;
      new = id_or_zero i.id (λ id e. ids id (first_given i.id (item_ids is) id e));
      name = legal_name i.name legal.0;
      short = short_name i.name legal.0;
    },
    written_commands is (λ id h. ids id (later_given i.id (item_ids is) id h)) legal.1,
  )

  -- where every new id is zero, and no item's is, all are to be deleted
  all_deleted : (items : List PushItem) → ¬ Contains (item_ids items) zero_id → only_deletes (map (command_for content) items) ≡ true → item_ids items ≡ []
  all_deleted [] none e = refl
  all_deleted (i ∷ is) none e =
      let parts = and_parts (id_eq (unwrap_or i.id zero_id) zero_id) (only_deletes (map (command_for content) is)) e in
      by i.id none parts.0 (all_deleted is (λ h. none (later_given i.id (item_ids is) zero_id h)) parts.1)
    where
      by : (found : Option ObjectId) → ¬ Contains (cons_option found (item_ids is)) zero_id → id_eq (unwrap_or found zero_id) zero_id ≡ true → item_ids is ≡ [] → cons_option found (item_ids is) ≡ []
      by None none e rest = rest
      by (Some y) none e rest = absurd (none (0, omega arith, id_eq-same y zero_id e))

-- ---- what is known, as the machine has it
module _ (content : FileMap) (r : Repository) (held : HoldsContent content r) where
  known_to : (x : Id) → ReachedFrom git (stored r.objects) (IsTrackingValue r.refs) x → IsKnown content (id_of_bytes x)
  known_to x (u, (b, is), path) = record {
    value = id_of_bytes u;
    tracked = (b, held.refs_are (tracking b) ∙ ap (option_map id_of_bytes) is);
    reaches = path_to (objects content) (stored r.objects) held.objects_are path.0 u u x itself path.1;
  }

  known_from : (x : Id) → IsKnown content (id_of_bytes x) → ReachedFrom git (stored r.objects) (IsTrackingValue r.refs) x
  known_from x known =
      let b = known.tracked.0 in (
        known.value.0,
        (b, that_id (get r.refs (tracking b)) known.value.0 (sym (held.refs_are (tracking b)) ∙ known.tracked.1)),
        path_from (objects content) (stored r.objects) held.objects_are known.value (id_of_bytes x) known.reaches,
      )

  -- over a sound repository all is there that is known
  known_there : IsSound git r → (id : ObjectId) → IsKnown content id → objects content id ≢ None
  known_there sound id known none =
      let k = known_from id.0 known in
      let t = (sound.refs (tracking k.1.0) k.0 k.1.1).closed.there id.0 k.2 in
      none-some (stored_of t.0) (sym none ∙ held.objects_are id.0 ∙ ap (option_map stored_of) t.1)

positive : {X : Type 0} (xs : List X) → xs ≢ [] → 0 < length xs
positive [] some = absurd (some refl)
positive (x ∷ xs) some = omega arith

module _ (content : FileMap) (atomic : Bool) (items : List PushItem) (set : List StoredObject) (some : items ≢ []) (few : length items ≤ 256)
    (complete : IsClosedUnder (links_in (objects content)) (item_ids items)) (sorted : IsSortedByName (map stored_name set)) (sent : AreSent content (item_ids items) set)
    (legal : AllByRecursion (λ (c : CommandText). IsRefName c.name) (map (command_for content) items)) where
  abbrev push_of : PushText
  push_of = record { atomic = atomic; commands = map (command_for content) items; carried = Ok set }

  given_id : (id : ObjectId) → Contains (item_ids items) id → IsId id
  given_id id h = object_id content id (there_from_links (objects content) id (complete id (record { root = id; is_root = h; reaches = itself })))

  written_carried : ¬ Contains (item_ids items) zero_id → (b : Bool) → only_deletes (map (command_for content) items) ≡ b → IsWrittenCarried b (Ok set)
  written_carried none true e = ap Ok (nothing_sent content (item_ids items) set sorted sent (all_deleted content items none e))
  written_carried none false e = (record { sorted = sorted; small = small content (item_ids items) set sorted sent }, grammar content (item_ids items) set sorted sent)

  written_push : ¬ Contains (item_ids items) zero_id → IsWrittenPush push_of
  written_push none =
      let long = length-map items (command_for content) in
      record {
        some = let h = positive items some in omega (arith, h, long);
        few = omega (arith, few, long);
        commands = written_commands content items given_id legal;
        carried = written_carried none (only_deletes (map (command_for content) items)) refl;
      }

  -- ---- as the machine has it
  abbrev brought : Objects
  brought = (each_is_brought (Ok set)).0

  are_brought : AreBrought (Ok set) brought
  are_brought = (each_is_brought (Ok set)).1

  brought_is : (x : Id) → option_map stored_of (get brought x) ≡ object_named (id_of_bytes x) set
  brought_is x = are_brought x ∙ sym (all_in set (id_of_bytes x) (grammar content (item_ids items) set sorted sent))

  machine_push : IsPush (Push atomic None (map machine_command push_of.commands) brought) push_of
  machine_push = record { refusal = None; objects = brought; is = refl; refused = refl; brought = are_brought }

  module _ (r : Repository) (held : HoldsContent content r) where
    new_is : (found : Option ObjectId) → (unwrap_or found zero_id).0 ≡ unwrap_or (option_map bytes_of_id found) model.zero_id
    new_is None = refl
    new_is (Some id) = refl

    value_is : (found : Option Id) → (unwrap_or (option_map id_of_bytes found) zero_id).0 ≡ unwrap_or found model.zero_id
    value_is None = refl
    value_is (Some x) = refl

    old_is : (name : List ℕ) → IsOldOf r.refs name (known_value content name).0
    old_is name = by (starts_with nat_eq name (codes "refs/heads/")) refl
      where
        starts : (starts_with nat_eq name (codes "refs/heads/") ≡ true → name ≡ branch (drop 11 name)) × ((rest : List ℕ) → name ≡ branch rest → starts_with nat_eq name (codes "refs/heads/") ≡ true)
        starts = starts_is Decides-eqb name (codes "refs/heads/") (starts_with nat_eq name (codes "refs/heads/")) refl

        by : (b : Bool) → starts_with nat_eq name (codes "refs/heads/") ≡ b → IsOldOf r.refs name (cond b (unwrap_or (refs content (tracking_name name)) zero_id) zero_id).0
        by true e =
            inl (drop 11 name, starts.0 e, ap (λ found. (unwrap_or found zero_id).0) (held.refs_are (tracking_name name)) ∙ value_is (get r.refs (tracking_name name)))
        by false e = inr (λ (b, is). true≢false (sym (starts.1 b is) ∙ e), refl)

    commands_are : (is : List PushItem) → AreCommandsFor r.refs (machine_items is) (map machine_command (map (command_for content) is))
    commands_are [] = tt
    commands_are (i ∷ is) = (refl, new_is i.id, old_is i.name, commands_are is)

    reached_to : (x : Id) → ReachedFrom git (stored r.objects) (IsItemId (machine_items items)) x → graph.ReachedFrom (links_in (objects content)) (item_ids items) (id_of_bytes x)
    reached_to x (u, given, path) = record {
      root = id_of_bytes u;
      is_root = item_given items u given;
      reaches = path_to (objects content) (stored r.objects) held.objects_are path.0 u u x itself path.1;
    }

    reached_from : (x : Id) → graph.ReachedFrom (links_in (objects content)) (item_ids items) (id_of_bytes x) → ReachedFrom git (stored r.objects) (IsItemId (machine_items items)) x
    reached_from x h = (h.root.0, given_item items h.root h.is_root, path_from (objects content) (stored r.objects) held.objects_are h.root (id_of_bytes x) h.reaches)

    stored_is : (x : Id) (o : Object) → objects content (id_of_bytes x) ≡ Some (stored_of o) → get r.objects x ≡ Some o
    stored_is x o e = some_once (get r.objects x) (Some o) (sym (held.objects_are x) ∙ e)

    difference : IsDifference git r.objects (IsItemId (machine_items items)) (IsTrackingValue r.refs) brought
    difference = record {
      only = λ x o found.
          let is = (sent (id_of_bytes x) (stored_of o)).0 (sym (brought_is x) ∙ ap (option_map stored_of) found) in
          (stored_is x o is.1, reached_from x is.0.0, λ h. is.0.1 (known_to content r held x h));
      all = λ x o there wanted lacked.
          some_once (get brought x) (Some o)
          (brought_is x ∙ (sent (id_of_bytes x) (stored_of o)).1 ((reached_to x wanted, λ known. lacked (known_from content r held x known)), held.objects_are x ∙ ap (option_map stored_of) there));
    }

    sent_push : (bytes : List ℕ) → bytes ≡ flat_map spelling (push_lines push_of) → ¬ IsItemId (machine_items items) model.zero_id → IsSentPush r atomic (machine_items items) bytes
    sent_push bytes spelled none = record {
      commands = map machine_command push_of.commands;
      objects = brought;
      few = let long = length-map items machine_item in omega (arith, few, long);
      complete = λ x given. closed_from (objects content) (stored r.objects) held.objects_are x (λ y reaches. complete y (record { root = id_of_bytes x; is_root = item_given items x given; reaches = reaches }));
      commands_are = commands_are items;
      objects_are = difference;
      written = written_so (Push atomic None (map machine_command push_of.commands) brought) (a_push push_of) bytes machine_push (written_push (λ h. none (given_item items zero_id h))) spelled;
    }

sends_push : (content : FileMap) (atomic : Bool) (items : List PushItem) (push : PushText) (bytes : List ℕ) → items ≢ [] → length items ≤ 256 → IsPushOf content items push → push.atomic ≡ atomic
    → AllByRecursion (λ (c : CommandText). IsRefName c.name) push.commands → bytes ≡ flat_map spelling (push_lines push) → SendsPush content atomic items bytes
sends_push content atomic items push bytes some few is asks legal spelled r held =
    let names = subst (AllByRecursion (λ (c : CommandText). IsRefName c.name)) is.commands legal in
    let asked : push ≡ record push { atomic = atomic } = ap (λ (b : Bool). record push { atomic = b }) asks in
    let commands : ◌≡◌ {A = PushText} (record push { atomic = atomic }) (record { atomic = atomic; commands = map (command_for content) items; carried = push.carried }) =
    ap (λ cs. record { atomic = atomic; commands = cs; carried = push.carried }) is.commands in
    let carries : ◌≡◌ {A = PushText} (record { atomic = atomic; commands = map (command_for content) items; carried = push.carried }) (record { atomic = atomic; commands = map (command_for content) items; carried = Ok is.set }) =
    ap (λ set. record { atomic = atomic; commands = map (command_for content) items; carried = set }) is.carried in
    sent_push content atomic items is.set some few is.complete is.sorted is.sent names r held bytes (spelled ∙ ap (λ t. flat_map spelling (push_lines t)) (asked ∙ commands ∙ carries))

pub sends_made : (content : FileMap) (atomic : Bool) (items : List PushItem) (commands : List Command) (push : PushText) (bytes : List ℕ) → items ≢ [] → length items ≤ 256 → IsPushOf content items push → push.atomic ≡ atomic
    → push.commands ≡ commands_of commands → All (λ (c : Command). IsRefName c.name.items) commands → bytes ≡ flat_map spelling (push_lines push) → SendsPush content atomic items bytes
sends_made content atomic items commands push bytes some few is asks are legal spelled =
    sends_push content atomic items push bytes some few is asks
    (subst (AllByRecursion (λ (c : CommandText). IsRefName c.name)) (sym are) (legal_texts commands (recursion_from_All (λ (c : Command). IsRefName c.name.items) commands legal))) spelled

-- ---- what refuses it
pub refused_push : (content : FileMap) (items : List PushItem) (e : SendFault) → length items ≤ 256 → IsRefusedSend content (item_ids items) e → IsRefusedPush content items e
refused_push content items TooMany few h = absurd h
refused_push content items (Missing id) few h = (few, h)
refused_push content items (Refs fault) few h = h
refused_push content items (Graph fault) few h = h
refused_push content items (Fault fault) few h = tt

pub declines_push : (content : FileMap) (items : List PushItem) (e : SendFault) → IsRefusedPush content items e → DeclinesPush content items e
declines_push content items TooMany many = λ r held. inl (λ few. let long = length-map items machine_item in omega (arith, many, few, long), refl)
declines_push content items (Missing id) (few, first) = λ r held.
    let lacks = first.incomplete in
    let among : Contains (item_ids items) id = subst (λ ids. Contains ids id) (sym first.place) (Contains-append_right first.before (id ∷ first.after) id (0, omega arith, refl)) in
    let long = length-map items machine_item in
    inr (
      omega (arith, few, long),
      inl (
        λ all.
            let there = closed_to (objects content) (stored r.objects) held.objects_are id.0 (all id.0 (given_item items id among)) lacks.missing lacks.reaches in
            true≢false (sym there ∙ ap is_some lacks.absent),
        refl,
      ),
    )
declines_push content items (Refs fault) refused = tt
declines_push content items (Graph (graph_fault.Missing id)) refused = λ r held sound. known_there content r held sound id refused.0 refused.1
declines_push content items (Graph (graph_fault.Store fault)) refused = tt
declines_push content items (Fault fault) refused = tt
