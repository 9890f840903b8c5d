-- The refs that a list is answered with: they are all told, and as the machine tells them.
use Rattle.std.proofs.Common.{◌≡◌, ◌≢◌, ℕ, ◌≤◌, ◌-◌, ◌==◌, ◌&&◌, arith, Bool, true, false, cond, nat_eq, List, ◌∷◌, ◌++◌, length, take, drop, Option, Some, None, refl, sym, ap, ◌∙◌, subst, true≢false, []}
use Rattle.std.specs.Prelude.{codes, option_and_then, option_map}
use Rattle.std.specs.FinMap.{empty, find, get, get-empty, get-insert, insert, is_sorted}
use Rattle.std.specs.FinMap as finite
use Rattle.std.specs.FinMap.Entries.{below_all}
use Rattle.std.specs.List.{ends_with, list_any, starts_with}
use Rattle.std.specs.Option.{option_or}
use Rattle.std.specs.Ordering.{eq_by_cmp, nat_cmp}
use Rattle.std.specs.Cmp.Lexicographic.{nat_list_cmp_total, slice_cmp}
use Rattle.std.specs.Str.{bytes_eq, is_utf8}
use Rattle.std.specs.declared.cmp.Ordering.{Ordering}
use Rattle.std.proofs.lemmas.Bool.{and_parts, false_from_ne_true, ltb-false, or_right}
use Rattle.std.proofs.lemmas.Bool.Decides.{Decides-eqb, nat_tests}
use Rattle.std.proofs.lemmas.List.Folds.{list_any-append}
use Rattle.std.proofs.lemmas.Option.{none-some, same_Some}
use Rattle.std.proofs.lemmas.Slice.Eq.{bytes_eq-Decides, ends_is}
use Rattle.vc_fetch.specs.Advert.{AdvertText, IsHeadId, IsName, IsWrittenAdvert, IsWrittenRef, Ref, RefIds}
use Rattle.vc_fetch.specs.Advert as advert
use Rattle.vc_fetch.proofs.RefMaps.{same_name}
use Rattle.vc_files.specs.FileMap.{FileMap}
use Rattle.vc_format.specs.Git.{bytes_of_id, id_of_bytes}
use Rattle.vc_message.specs.Machine.{IsAdvert}
use Rattle.vc_model.proofs.Entries.{all_entries}
use Rattle.vc_model.specs.Message.Message.{Advert}
use Rattle.vc_model.specs.Object.{Id}
use Rattle.vc_model.specs.Refs.{Head as MachineHead}
use Rattle.vc_model.specs.Repository.{Repository}
use Rattle.vc_model.specs.Shared as shared
use Rattle.vc_local.specs.Machine.{Spells, machine_head}
use Rattle.vc_local.specs.Shown.{shown}
use Rattle.vc_object.specs.Lines.{IsId}
use Rattle.vc_object.specs.declared.id.ObjectId.{ObjectId}
use Rattle.vc_object.proofs.IdLemmas.{IsId-from_is_id}
use Rattle.vc_refname.specs.RefName.{IsRefName, is_bad_byte, is_ref_name}
use Rattle.vc_refname.specs.declared.fault.NameFault.TheVariants as rules
use Rattle.vc_refname.proofs.BrokenRules.{legal_from_is_ref_name}
use Rattle.vc_refs.specs.Head.{head_of, head_value, id_said, name_said, read_head, said}
use Rattle.vc_refs.specs.RefFile.{id_in, without_lf}
use Rattle.vc_refs.specs.RefMap.{is_ref}
use Rattle.vc_refs.specs.Refs.{refs}
use Rattle.vc_refs.specs.declared.heads.Head.{Head}
use Rattle.vc_refs.specs.declared.heads.Head.TheVariants as head
use Rattle.vc_refs.proofs.LayeredLemmas.{ref_legal, ref_whole}
use Rattle.vc_refs.proofs.PackedLaws.{id_in-valid}
use Rattle.vc_refs.proofs.PackedLemmas.{find_below}
use Rattle.vc_push_rules.proofs.BreakLemmas.{no_break}
use Rattle.vc_shared.specs.Serving.{TellsRefs}

-- ---- refs that are set one after another
abbrev by_bytes : List ℕ → List ℕ → Ordering
by_bytes = slice_cmp nat_cmp

-- the ids after these are set, the first of them first
unfoldable pub with_all : RefIds → List Ref → RefIds
with_all ids [] = ids
with_all ids (ref ∷ refs) = with_all (insert ids ref.0 ref.1) refs

pub with_all-none : (ids : RefIds) → with_all ids [] ≡ ids
unfolding with_all
with_all-none ids = refl

pub with_all-push : (ids : RefIds) (refs : List Ref) (ref : Ref) → with_all ids (refs ++ ref ∷ []) ≡ insert (with_all ids refs) ref.0 ref.1
unfolding with_all
with_all-push ids [] ref = refl
with_all-push ids (other ∷ refs) ref = with_all-push (insert ids other.0 other.1) refs ref

-- a list in order has each name once, so it does not matter which ref of a name counts
pub with_all-found : (refs : List Ref) (ids : RefIds) (name : List ℕ) → is_sorted by_bytes refs ≡ true → get (with_all ids refs) name ≡ option_or (find by_bytes name refs) (get ids name)
unfolding with_all
with_all-found [] ids name sorted = refl
with_all-found (ref ∷ refs) ids name sorted =
    let parts = and_parts (below_all by_bytes ref.0 refs) (is_sorted by_bytes refs) sorted in
    with_all-found refs (insert ids ref.0 ref.1) name parts.1
    ∙ ap (option_or (find by_bytes name refs)) (get-insert nat_list_cmp_total ids ref.0 ref.1 name)
    ∙ by (eq_by_cmp by_bytes name ref.0) refl parts.0
  where
    by : (b : Bool) → eq_by_cmp by_bytes name ref.0 ≡ b → below_all by_bytes ref.0 refs ≡ true
        → option_or (find by_bytes name refs) (cond b (Some ref.1) (get ids name)) ≡ option_or (cond b (Some ref.1) (find by_bytes name refs)) (get ids name)
    by true is below =
        let none : find by_bytes name refs ≡ None = ap (λ n. find by_bytes n refs) (same_name name ref.0 is) ∙ find_below ref.0 refs below in
        ap (λ o. option_or o (Some ref.1)) none
    by false is below = refl

-- from nothing they are what the list has
pub set_all : (refs : List Ref) (name : List ℕ) → is_sorted by_bytes refs ≡ true → get (with_all empty refs) name ≡ find by_bytes name refs
set_all refs name sorted = with_all-found refs empty name sorted ∙ ap (option_or (find by_bytes name refs)) (get-empty by_bytes name) ∙ or_none (find by_bytes name refs)
  where
    or_none : (found : Option ObjectId) → option_or found None ≡ found
    or_none None = refl
    or_none (Some id) = refl

-- ---- ids of files
-- a text that names a branch, or nothing, says no id
no_id_named : {H : Type 0} (says : H → Option Head) (named : List ℕ) (itself branch nothing : H) (self legal : Bool) (id : ObjectId) → says (cond self itself (cond legal branch nothing)) ≡ Some (head.Id id)
    → says itself ≡ None → says branch ≡ Some (head.Branch named) → says nothing ≡ None → ⊥
no_id_named says named itself branch nothing true legal id e a b c = none-some (head.Id id) (sym a ∙ e)
no_id_named says named itself branch nothing false true id e a b c = let h : ◌≡◌ {A = Option Head} (Some (head.Branch named)) (Some (head.Id id)) = sym b ∙ e in cc h
no_id_named says named itself branch nothing false false id e a b c = none-some (head.Id id) (sym c ∙ e)

-- and so is HEAD, where it is no branch
head_id : (content : FileMap) (id : ObjectId) → head_of content ≡ Some (head.Id id) → IsId id
unfolding head_of
head_id content id = by (finite.get content (codes "HEAD"))
  where
    by_id : (text : List ℕ) (found : Option ObjectId) → id_in text ≡ found → said (id_said found) ≡ Some (head.Id id) → IsId id
    by_id text None is says = absurd (none-some (head.Id id) says)
    by_id text (Some x) is says =
        let same : x ≡ id = let h : ◌≡◌ {A = Option Head} (Some (head.Id x)) (Some (head.Id id)) = says in cc h in
        IsId-from_is_id id (id_in-valid text id (is ∙ ap Some same))

    by_kind : (text : List ℕ) (b : Bool) → said (cond b (name_said (without_lf (drop 5 text))) (id_said (id_in text))) ≡ Some (head.Id id) → IsId id
    by_kind text true says =
        let name = without_lf (drop 5 text) in
        absurd (no_id_named said name _ _ _ (bytes_eq name (codes "HEAD")) (is_ref name && is_utf8 name) id says refl refl refl)
    by_kind text false says = by_id text (id_in text) refl says

    by : (found : Option (List ℕ)) → option_and_then (λ text. said (read_head text)) found ≡ Some (head.Id id) → IsId id
    by None is = absurd (none-some (head.Id id) is)
    by (Some text) is = by_kind text (starts_with nat_eq text (codes "ref: ")) is

-- ---- names of refs, as they are written
differs : (b k : ℕ) → is_bad_byte k ≡ true → is_bad_byte b ≡ false → (b == k) ≡ false
differs b k bad fine = let other : b ≢ k = λ e. true≢false (sym bad ∙ sym (ap is_bad_byte e) ∙ fine) in grind (arith, nat_tests, other)

module _ (name : List ℕ) (legal : is_ref name ≡ true) where
  parts : (is_ref_name name ≡ true) × (starts_with nat_eq name (codes "refs/") ≡ true)
  parts = and_parts (is_ref_name name) (starts_with nat_eq name (codes "refs/")) legal

  keeps : IsRefName name
  keeps = legal_from_is_ref_name name parts.0

  is_name : IsName name
  is_name = record {
    some = λ none. true≢false (sym parts.1 ∙ ap (λ n. starts_with nat_eq n (codes "refs/")) none);
    plain = no_break name (keeps rules.BadByte);
  }

  no_head : bytes_eq name (codes "HEAD") ≡ false
  no_head = false_from_ne_true (bytes_eq name (codes "HEAD")) (λ same. true≢false (sym parts.1 ∙ ap (λ n. starts_with nat_eq n (codes "refs/")) ((bytes_eq-Decides name (codes "HEAD")).0 same)))

  no_peel : ends_with nat_eq name (codes "^{}") ≡ false
  no_peel = false_from_ne_true (ends_with nat_eq name (codes "^{}"))
      (λ ends.
      let front = take (length name - 3) name in
      let is : name ≡ front ++ codes "^{}" = (ends_is Decides-eqb name (codes "^{}") (ends_with nat_eq name (codes "^{}")) refl).0 ends in
      let bad : list_any is_bad_byte name ≡ true = ap (list_any is_bad_byte) is ∙ list_any-append is_bad_byte front (codes "^{}") ∙ or_right (list_any is_bad_byte front) true refl in
      true≢false (sym bad ∙ keeps rules.BadByte))

  counts : advert.is_ref name ≡ true
  counts = rw (no_head, no_peel) refl

  short_name : length name ≤ 255
  short_name = ltb-false 255 (length name) (keeps rules.TooLong)

pub few_bytes : (name : List ℕ) → IsRefName name → length name ≤ 65450
few_bytes name legal = let few : length name ≤ 255 = ltb-false 255 (length name) (legal rules.TooLong) in omega (arith, few)

written_ref : (content : FileMap) (name : List ℕ) (id : ObjectId) → refs content name ≡ Some id → IsWrittenRef (name, id)
written_ref content name id e =
    let legal = ref_legal content name id e in
    record { name = is_name name legal; counts = counts name legal; id = ref_whole content name id e; short = few_bytes name (keeps name legal) }

-- ---- what is told
module _ (content : FileMap) (t : AdvertText) (tells : TellsRefs content t) where
  head_is_id : (at : Option Head) → head_of content ≡ at → (value : Option ObjectId) → head_value (refs content) at ≡ value → IsHeadId value
  head_is_id at is None e = tt
  head_is_id None is (Some id) e = absurd (none-some id e)
  head_is_id (Some (head.Branch name)) is (Some id) e = ref_whole content name id e
  head_is_id (Some (head.Id x)) is (Some id) e = head_id content id (is ∙ ap (λ y. Some (head.Id y)) (same_Some x id e))

  -- it is read as it is written
  pub written_advert : IsWrittenAdvert t
  written_advert = record {
    head = subst IsHeadId (sym tells.value) (head_is_id (head_of content) refl (head_value (refs content) (head_of content)) refl);
    refs = all_entries nat_list_cmp_total IsWrittenRef t.refs (λ name id found. written_ref content name id (sym (tells.each name) ∙ found));
  }

  module _ (r : Repository) (spells : Spells (shown content) r) where
    back : (found : Option Id) → option_map bytes_of_id (option_map id_of_bytes found) ≡ found
    back None = refl
    back (Some x) = refl

    machine_value : (at : Head) → r.head ≡ machine_head at → shared.head_value r ≡ option_map bytes_of_id (head_value (refs content) (Some at))
    machine_value (head.Branch name) is =
        ap (λ (h : MachineHead). shared.head_value (record r { head = h })) is ∙ sym (back (get r.refs name)) ∙ ap (option_map bytes_of_id) (sym (spells.refs name))
    machine_value (head.Id id) is = ap (λ (h : MachineHead). shared.head_value (record r { head = h })) is

    -- it is what the machine tells
    pub machine_advert : IsAdvert (Advert (shared.head_value r) r.refs) t
    machine_advert = record {
      refs = r.refs;
      is = ap (λ v. Advert v r.refs)
          (machine_value spells.head spells.head_is ∙ ap (λ at. option_map bytes_of_id (head_value (refs content) at)) (sym spells.head_shown) ∙ ap (option_map bytes_of_id) (sym tells.value));
      same = λ n. sym (back (get r.refs n)) ∙ ap (option_map bytes_of_id) (sym (spells.refs n)) ∙ ap (option_map bytes_of_id) (sym (tells.each n));
    }
