-- For a checkout: what the note of it and the index that it starts from show.
use Rattle.std.proofs.Common.{◌≡◌, ℕ, Bool, true, false, cond, nat_eq, List, ◌∷◌, Option, Some, None, refl, ap, ◌∙◌, subst, []}
use Rattle.std.specs.Prelude.{bytes_eq, codes, option_and_then, unwrap_or}
use Rattle.std.specs.FinMap.{get, insert}
use Rattle.std.specs.List.{starts_with}
use Rattle.std.proofs.lemmas.Bool.{and_parts, eqb-true}
use Rattle.vc_files.specs.FileMap.{FileMap}
use Rattle.vc_files.proofs.FileMapLemmas.{get-put, get-unput}
use Rattle.vc_object.specs.ObjectId.{is_id}
use Rattle.vc_object.specs.declared.id.ObjectId.{ObjectId}
use Rattle.vc_object_map.specs.Store.{object_path, objects}
use Rattle.vc_refs.specs.Head.{head_of}
use Rattle.vc_refs.specs.RefFile.{id_in, id_text}
use Rattle.vc_refs.specs.RefMap.{IsInRefs}
use Rattle.vc_refs.specs.Refs.{ChangesOnly, packed_path, refs}
use Rattle.vc_refs.specs.declared.heads.Head.{Head}
use Rattle.vc_refs.proofs.LayeredLemmas.{refs-of_files}
use Rattle.vc_refs.proofs.LayeredListingLemmas.{head_of-same}
use Rattle.vc_refs.proofs.RefFileLemmas.{id_in-id_text}
use Rattle.vc_index.specs.IndexMap.{IndexMap}
use Rattle.vc_index.specs.IndexText.{index_text}
use Rattle.vc_local.specs.IndexFile.{index_bytes}
use Rattle.vc_local.specs.Shown.{Shown, shown, with_head_shown, with_index_shown}
use Rattle.vc_local.proofs.ShownLemmas.{objects_same, same_shown, shown_head, shown_index}
use Rattle.vc_working.specs.Begun.{begun_in, note_path, with_note, without_note}
use Rattle.vc_working.specs.Checkout.{noted, with_start}

-- no ref's file is the note
ref_no_note : (q : List ℕ) → IsInRefs q → bytes_eq q note_path ≡ false
ref_no_note [] inside = refl
ref_no_note (c ∷ rest) inside =
    let first = and_parts (nat_eq 114 c) (starts_with nat_eq rest (codes "efs/")) inside in
    subst (λ (n : ℕ). bytes_eq (n ∷ rest) note_path ≡ false) (eqb-true 114 c first.0) refl

-- files that are the same but for the note show the same
shown_but : (old new : FileMap) (note : Option (List ℕ)) → ((q : List ℕ) → get new q ≡ cond (bytes_eq q note_path) note (get old q)) → shown new ≡ shown old
shown_but old new note at =
    same_shown (objects new) (objects old) (refs new) (refs old) (head_of new) (head_of old) (index_bytes new) (index_bytes old)
    (objects_same old new (λ n. at (object_path n)))
    (refs-of_files old new (λ q inside. at q ∙ ap (λ b. cond b note (get old q)) (ref_no_note q inside)) (at packed_path))
    (head_of-same old new (at (codes "HEAD")))
    (ap (λ found. unwrap_or found []) (at (codes "index")))

shown_noted : (content : FileMap) (root : ObjectId) → shown (with_note content root) ≡ shown content
shown_noted content root = shown_but content (with_note content root) (Some (id_text root)) (get-put content note_path (id_text root))

shown_ended : (content : FileMap) → shown (without_note content) ≡ shown content
shown_ended content = shown_but content (without_note content) None (get-unput content note_path)

-- what is noted shows another index at most
shown_started : (content : FileMap) (is_cut : Bool) (start : IndexMap) (root : ObjectId) (text : List ℕ) → with_index_shown (shown (noted content is_cut start root)) text ≡ with_index_shown (shown content) text
shown_started content false start root text = ap (λ (s : Shown). with_index_shown s text) (shown_noted content root)
shown_started content true start root text = ap (λ (s : Shown). with_index_shown s text) (shown_noted (with_start content true start) root ∙ shown_index content (with_start content true start) (index_text start) refl)

pub objects_noted : (content : FileMap) (is_cut : Bool) (start : IndexMap) (root : ObjectId) → objects (noted content is_cut start root) ≡ objects content
objects_noted content is_cut start root = ap (λ (s : Shown). s.objects) (shown_started content is_cut start root [])

-- the index is written over what is noted
pub shown_brought : (content new : FileMap) (is_cut : Bool) (start : IndexMap) (root : ObjectId) (text : List ℕ) → new ≡ insert (noted content is_cut start root) (codes "index") text → shown new ≡ with_index_shown (shown content) text
shown_brought content new is_cut start root text is = shown_index (noted content is_cut start root) new text is ∙ shown_started content is_cut start root text

-- and HEAD is set
pub shown_headed : (content mid new : FileMap) (head : Head) (text : List ℕ) → shown mid ≡ with_index_shown (shown content) text → ChangesOnly (codes "HEAD") mid new → refs new ≡ refs mid → head_of new ≡ Some head
    → shown new ≡ with_head_shown (with_index_shown (shown content) text) head
shown_headed content mid new head text is only kept set = shown_head mid new head only kept set ∙ ap (λ (s : Shown). with_head_shown s head) is

pub shown_done : (mid new : FileMap) (s : Shown) → new ≡ without_note mid → shown mid ≡ s → shown new ≡ s
shown_done mid new s is so = ap shown is ∙ shown_ended mid ∙ so

-- ---- what the note says

pub begun_noted : (content new : FileMap) (tree : ObjectId) → new ≡ with_note content tree → is_id tree ≡ true → begun_in new ≡ Some tree
begun_noted content new tree is valid = ap begun_in is ∙ ap (option_and_then id_in) (get-put content note_path (id_text tree) note_path) ∙ id_in-id_text tree valid

pub begun_index : (mid new : FileMap) (text : List ℕ) (tree : Option ObjectId) → new ≡ insert mid (codes "index") text → begun_in mid ≡ tree → begun_in new ≡ tree
begun_index mid new text tree is so = ap begun_in is ∙ ap (option_and_then id_in) (get-put mid (codes "index") text note_path) ∙ so

pub begun_head : (mid new : FileMap) (tree : Option ObjectId) → ChangesOnly (codes "HEAD") mid new → begun_in mid ≡ tree → begun_in new ≡ tree
begun_head mid new tree only so = ap (option_and_then id_in) (only.at note_path refl) ∙ so

pub begun_same : (mid new : FileMap) (tree : Option ObjectId) → new ≡ mid → begun_in mid ≡ tree → begun_in new ≡ tree
begun_same mid new tree is so = ap begun_in is ∙ so

pub begun_none : (mid new : FileMap) → new ≡ without_note mid → begun_in new ≡ None
begun_none mid new is = ap begun_in is ∙ ap (option_and_then id_in) (get-unput mid note_path note_path)
