-- What a clone says that it has: the values of its refs in order, then HEAD's; and the message that asks for what it wants.
use Rattle.std.proofs.Common.{◌≡◌, ◌≢◌, ◌≤◌, ◌<◌, ◌+◌, inl, inr, ℕ, true, T, List, ◌∷◌, ◌++◌, length, get_or, take, map, option_to_list, Option, Some, None, arith, refl, sym, ap, ◌∙◌, subst, []}
use Rattle.std.specs.Prelude.{option_map, string_bytes}
use Rattle.std.specs.FinMap.{entries, entries_sorted, get, get-entries, values}
use Rattle.std.specs.FinMap.Entries.{same_entries}
use Rattle.std.specs.List.{AllByRecursion, flat_map}
use Rattle.std.specs.Ordering.{nat_cmp}
use Rattle.std.specs.Cmp.Lexicographic.{nat_list_cmp_total, slice_cmp}
use Rattle.std.proofs.lemmas.List.{append-nil, take-map, take_more}
use Rattle.vc_fetch.specs.Want.{want_lines}
use Rattle.vc_files.specs.FileMap.{FileMap}
use Rattle.vc_format.specs.Git.{bytes_of_id, id_of_bytes}
use Rattle.vc_message.specs.AnyMessage.{a_want}
use Rattle.vc_message.specs.Machine.{IsWritten}
use Rattle.vc_message.proofs.AnyLaws.{written_so}
use Rattle.vc_model.proofs.Maps.{bytes_same}
use Rattle.vc_model.specs.Clone.{once}
use Rattle.vc_model.specs.Message.Message.{Want}
use Rattle.vc_model.specs.Object.{Id}
use Rattle.vc_model.specs.Repository.{Repository}
use Rattle.vc_object.specs.Lines.{IsId}
use Rattle.vc_object.specs.ObjectId.{is_id}
use Rattle.vc_object.specs.declared.id.ObjectId.{ObjectId}
use Rattle.vc_object.proofs.IdLemmas.{IsId-from_is_id}
use Rattle.vc_pkt.specs.Line.{spelling}
use Rattle.vc_refs.specs.Head.{head_of, head_value}
use Rattle.vc_refs.specs.RefMap.{IsListOf}
use Rattle.vc_refs.specs.RefFault.{BlamesHeadValue}
use Rattle.vc_refs.specs.Refs.{SpellsRefs, refs}
use Rattle.vc_refs.specs.declared.faults.RefFault.{RefFault}
use Rattle.vc_refs.specs.declared.faults.RefFault.TheVariants as ref
use Rattle.vc_rules.specs.OpenPushes.{HoldsContent}
use Rattle.vc_tracking.specs.Moving.{Told, machine_refs}
use Rattle.vc_tracking.specs.Faults.{from_refs}
use Rattle.vc_exchange.specs.Wanting.{AreHaves, BlamesWanting}
use Rattle.vc_exchange.proofs.RefEntries.{find_machine, sorted_machine}
use Rattle.vc_lemmas.proofs.Lists.{all_append}

-- ---- refs in order
pub bytes_back : (found : Option Id) → option_map bytes_of_id (option_map id_of_bytes found) ≡ found
bytes_back None = refl
bytes_back (Some x) = refl

-- the ids of listed refs
abbrev pub values_told : List Told → List Id
values_told told = map (λ t. bytes_of_id t.1) told

values_of_machine : (told : List Told) → map (λ e. e.1) (machine_refs told) ≡ values_told told
values_of_machine [] = refl
values_of_machine (t ∷ ts) = ap (λ (l : List Id). t.1.0 ∷ l) (values_of_machine ts)

module _ (content : FileMap) (r : Repository) (held : HoldsContent content r) where
  listed_entries : (told : List Told) → IsListOf (refs content) told → machine_refs told ≡ entries r.refs
  listed_entries told list =
      same_entries (slice_cmp nat_cmp) nat_list_cmp_total bytes_same (machine_refs told) (entries r.refs) (subst T (sym (sorted_machine told ∙ list.sorted)) tt) (entries_sorted r.refs)
      (λ n. find_machine told n ∙ ap (option_map bytes_of_id) (list.each n ∙ held.refs_are n) ∙ bytes_back (get r.refs n) ∙ get-entries r.refs n)

  listed_values : (told : List Told) → IsListOf (refs content) told → values_told told ≡ values r.refs
  listed_values told list = sym (values_of_machine told) ∙ ap (map (λ e. e.1)) (listed_entries told list)

-- ---- the refs and HEAD
-- where each file of the refs can be read, a look at HEAD's ref is refused for HEAD's own file alone
pub heads_blames : (content : FileMap) → SpellsRefs content → (e : RefFault) → BlamesHeadValue content e → BlamesWanting content (from_refs e)
heads_blames content spells (ref.Stale current) b = absurd b
heads_blames content spells (ref.Conflict other) b = absurd b
heads_blames content spells (ref.BadRefFile path) b = elim b [ inl head ↦ inr head | inr named ↦ absurd (spells (string_bytes path) named.3) ]
heads_blames content spells ref.HeadLoop b = b
heads_blames content spells (ref.Fault f) b = tt

-- what HEAD adds
abbrev pub value_found : Option ObjectId → List Id
value_found found = option_to_list (option_map bytes_of_id found)

pub no_head : (told : List Told) (ids : List ObjectId) (found : Option ObjectId) → found ≡ None → map bytes_of_id ids ≡ once [] (values_told told) → map bytes_of_id ids ≡ once [] (values_told told ++ value_found found)
no_head told ids found none is = is ∙ ap (once []) (sym (append-nil (values_told told)) ∙ ap (λ (o : Option ObjectId). values_told told ++ value_found o) (sym none))

pub are_haves : (content : FileMap) (told : List Told) (found : Option ObjectId) (ids first : List ObjectId) → IsListOf (refs content) told → found ≡ head_value (refs content) (head_of content)
    → map bytes_of_id ids ≡ once [] (values_told told ++ value_found found) → first ≡ take 256 ids → AreHaves content first
are_haves content told found ids first list head is taken r held holds =
    front 256 taken
    ∙ ap (λ (l : List Id). take 256 (once [] (l ++ value_found found))) (listed_values content r held told list)
    ∙ ap (λ (o : Option Id). take 256 (once [] (values r.refs ++ option_to_list o))) (ap (option_map bytes_of_id) head ∙ holds)
  where
    front : (n : ℕ) → first ≡ take n ids → map bytes_of_id first ≡ take n (once [] (values_told told ++ value_found found))
    front n e = ap (map bytes_of_id) e ∙ sym (take-map bytes_of_id n ids) ∙ ap (take n) is

-- ---- ids of twenty bytes

pub pushed_id : (old new : List ObjectId) (id : ObjectId) → new ≡ old ++ id ∷ [] → is_id id ≡ true → AllByRecursion IsId old → AllByRecursion IsId new
pushed_id old new id e valid all = subst (AllByRecursion IsId) (sym e) (all_append IsId old (id ∷ []) all (IsId-from_is_id id valid, tt))

pub more_taken : (front old new : List ObjectId) (i : ℕ) (id : ObjectId) → i < length front → id ≡ get_or front i (record { 0 = [] }) → new ≡ old ++ id ∷ [] → old ≡ take i front → new ≡ take (i + 1) front
more_taken front old new i id inside is e so_far =
    e ∙ ap (λ (l : List ObjectId). l ++ id ∷ []) so_far ∙ ap (λ (x : ObjectId). take i front ++ x ∷ []) is ∙ sym (take_more front i (record { 0 = [] }) inside)

pub none_taken : {A : Type 0} (xs : List A) → take 0 xs ≡ []
none_taken [] = refl
none_taken (x ∷ xs) = refl

-- ---- the message
some_wants : (wants : List ObjectId) → wants ≢ [] → 0 < length wants
some_wants [] some = absurd (some refl)
some_wants (id ∷ wants) some = omega arith

pub written_want : (wants haves : List ObjectId) (have : List Id) (bytes : List ℕ) → wants ≢ [] → length wants ≤ 256 → length haves ≤ 256 → AllByRecursion IsId wants → AllByRecursion IsId haves
    → map bytes_of_id haves ≡ have → bytes ≡ flat_map spelling (want_lines (record { wants = wants; haves = haves })) → IsWritten (Want (map bytes_of_id wants) have) bytes
written_want wants haves have bytes some few_wants few_haves all_wants all_haves is spelled =
    written_so (Want (map bytes_of_id wants) have) (a_want (record { wants = wants; haves = haves })) bytes (ap (λ (l : List Id). Want (map bytes_of_id wants) l) (sym is))
    (record { some = some_wants wants some; few_wants = few_wants; few_haves = few_haves; wants = all_wants; haves = all_haves }) spelled
