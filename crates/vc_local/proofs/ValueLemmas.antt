-- The value of an expression over clean files that spell a repository is what its text denotes there.
use Rattle.std.proofs.Common.{◌≡◌, ℕ, List, [], Option, Some, None, Ok, Err, refl, sym, ap, ◌∙◌, subst, inl, inr}
use Rattle.std.specs.Prelude.{IsSome, MatchOption, codes, option_map, unwrap_or}
use Rattle.std.specs.FinMap.{empty, get}
use Rattle.std.specs.List.{flat_map}
use Rattle.vc_files.specs.FileMap.{FileMap}
use Rattle.vc_files.specs.declared.faults.Fault.{Fault as FilesFault}
use Rattle.vc_files.specs.declared.faults.Fault.TheVariants as files
use Rattle.vc_format.specs.Git.{id_of_bytes}
use Rattle.vc_index.proofs.AgainLemmas.{one_index}
use Rattle.vc_index.proofs.MapLemmas.{empty-IsIndex, entries-empty}
use Rattle.vc_index.specs.IndexMap.{IndexMap, IsIndex}
use Rattle.vc_index.specs.IndexText.{TextFault, entry_text, index_text}
use Rattle.vc_index.specs.declared.entry.IndexEntry.{IndexEntry}
use Rattle.vc_model.specs.Refs.{Head as MachineHead}
use Rattle.vc_model.specs.Refs.Head.{Detached, OnBranch}
use Rattle.vc_model.specs.Repository.{Entry, Repository}
use Rattle.vc_local.proofs.IndexLemmas.{no_bad_index, spells_index}
use Rattle.vc_local.proofs.RefusalLemmas.{no_head, of_head_value}
use Rattle.vc_local.proofs.TreeLemmas.{same_objects}
use Rattle.vc_local.specs.Clean.{IsClean}
use Rattle.vc_local.specs.Machine.{Spells, machine_head}
use Rattle.vc_local.specs.Making.{IsOfLook}
use Rattle.vc_local.specs.Shown.{shown}
use Rattle.vc_object.specs.ObjectMap.{ObjectMap}
use Rattle.vc_object.specs.declared.id.ObjectId.{ObjectId}
use Rattle.vc_refs.specs.Head.{head_of, head_value}
use Rattle.vc_refs.specs.RefFault.{BlamesRef}
use Rattle.vc_refs.specs.Refs.{refs}
use Rattle.vc_refs.specs.declared.faults.RefFault.{RefFault}
use Rattle.vc_refs.specs.declared.faults.RefFault.TheVariants as ref
use Rattle.vc_refs.specs.declared.heads.Head.{Head}
use Rattle.vc_refs.specs.declared.heads.Head.TheVariants as heads
use Rattle.vc_repository.specs.Faults.{of_refs}
use Rattle.vc_repository.specs.IndexFile.{IsIndexOf}
use Rattle.vc_repository.specs.Resolving.{DenotesIn, IsIndexFor, IsOfExpr, IsOfIndexFor, over}
use Rattle.vc_repository.specs.State.{IsCause, state}
use Rattle.vc_expression.specs.Grammar.{ExprText, InIndex, InTree, IsExpr, Object}
use Rattle.vc_rev.specs.Meaning.{Answer as Value, Denotes}
use Rattle.vc_rev.specs.Question.{Question}
use Rattle.vc_rev.specs.Question as asks
use Rattle.vc_rev.specs.Source.{Names}
use Rattle.vc_rev.specs.Value.{whole_source}
use Rattle.vc_rev.specs.declared.refusal.RevFault.{RevFault}
use Rattle.vc_rev.specs.declared.refusal.RevFault.TheVariants.{Missing, NotACommit, Refused, Source}
use Rattle.vc_rev.specs.declared.refusal.SourceFault.{SourceFault}
use Rattle.vc_rev.specs.declared.refusal.SourceFault.TheVariants.{BadIndex, BadRefFile, HeadLoop, Store}
use Rattle.vc_rules.specs.Git.{layer_objects}
use Rattle.vc_values.specs.Trees.{machine_entry}
use Rattle.vc_values.specs.Values.{names_at}
use Rattle.vc_store.proofs.NamesLemmas.{file-objects, objects-file}
use Rattle.vc_object_map.specs.Store.{HasFile, IsDamaged, objects}
use Rattle.vc_object_map.specs.StoreFault.{IsFault, IsRefused}
use Rattle.vc_object_map.specs.declared.faults.StoreFault.{StoreFault}
use Rattle.vc_object_map.specs.declared.faults.StoreFault.TheVariants as store
use Rattle.vc_local.proofs.DenotingLemmas.{IsIndexSame, denotes_on}
use Rattle.vc_local.specs.Values.{TellsValue, ValuesAreTold}

same_ids : (o : Option IndexEntry) → option_map (λ (e : IndexEntry). e.id) o ≡ option_map (λ (e : Entry). id_of_bytes e.id) (option_map machine_entry o)
same_ids None = refl
same_ids (Some e) = refl

-- a fault of memory or device, and no other
abbrev IsFailure : SourceFault → Type 0
IsFailure fault = (f : FilesFault) × (fault ≡ Store (store.Fault f))

of_look : (e : RefFault) (fault : SourceFault) → (f : FilesFault) × (e ≡ ref.Fault f) → fault ≡ of_refs e → IsFailure fault
of_look e fault (f, same) is = (f, is ∙ ap of_refs same)

of_store : (e : StoreFault) (fault : SourceFault) → (f : FilesFault) × (e ≡ store.Fault f) → fault ≡ Store e → IsFailure fault
of_store e fault (f, same) is = (f, is ∙ ap Store same)

store_fails : (e : StoreFault) → IsFault e → (f : FilesFault) × (e ≡ store.Fault f)
store_fails (store.BadObject e) never = absurd never
store_fails (store.Absent id) never = absurd never
store_fails (store.Damaged id) never = absurd never
store_fails (store.Fault f) is = (f, refl)

-- ---- clean files that spell a repository
module _ (content : FileMap) (r : Repository) (clean : IsClean content) (spells : Spells (shown content) r) where
  same_refs : refs content ≡ (names_at r).ref
  same_refs i n = spells.refs n i

  value_by : (head : Head) → head_value (refs content) (Some head) ≡ option_map id_of_bytes (elim (machine_head head) [ OnBranch b ↦ get r.refs b | Detached x ↦ Some x ])
  value_by (heads.Branch name) = spells.refs name
  value_by (heads.Id id) = refl

  same_head : head_value (refs content) (head_of content) ≡ (names_at r).head
  same_head =
      ap (head_value (refs content)) spells.head_shown
      ∙ (value_by spells.head ∙ ap (λ (h : MachineHead). option_map id_of_bytes (elim h [ OnBranch b ↦ get r.refs b | Detached x ↦ Some x ])) (sym spells.head_is))

  -- a file stands in an object's place where it is found, and nowhere else
  stored_there : (id : ObjectId) → HasFile content id → IsSome (objects content id)
  stored_there id has = elim (objects-file content id has) [ inl some ↦ some | inr damaged ↦ absurd (clean.objects id damaged) ]

  same_index : (m : IndexMap) → IsIndexOf content m → m ≡ spells.map
  same_index m is = by (get content (codes "index")) refl is
    where
      by : (file : Option (List ℕ)) → get content (codes "index") ≡ file → MatchOption file (m ≡ empty) (λ bytes. (bytes ≡ index_text m) × IsIndex m) → m ≡ spells.map
      by None at none =
          none ∙ one_index empty spells.map empty-IsIndex spells.map_sound
          (ap (flat_map (λ (e : List ℕ × IndexEntry). entry_text e.0 e.1)) entries-empty ∙ (sym (ap (λ (file : Option (List ℕ)). unwrap_or file []) at) ∙ spells.map_shown))
      by (Some bytes) at (spelled, sound) =
          one_index m spells.map sound spells.map_sound (sym spelled ∙ (sym (ap (λ (file : Option (List ℕ)). unwrap_or file []) at) ∙ spells.map_shown))

  abbrev ids_in : IndexMap → List ℕ → Option ObjectId
  ids_in m path = option_map (λ (e : IndexEntry). e.id) (get m path)

  index_for : (e : ExprText) (m : IndexMap) → IsIndexFor content e m → IsIndexSame (ids_in m) (names_at r).index e
  index_for (Object rev) m is = tt
  index_for (InTree rev path) m is = tt
  index_for (InIndex path) m is =
      ap (λ (n : IndexMap). ids_in n path) (same_index m is) ∙ (same_ids (get spells.map path) ∙ ap (option_map (λ (e : Entry). id_of_bytes e.id)) (sym (spells.index path)))

  denotes_there : (e : ExprText) (a : Value) → DenotesIn content e a → Denotes (whole_source (names_at r) (layer_objects r.objects)) e a
  denotes_there e a (s, is, denotes) =
      let names : Names = record { ref = refs content; head = head_value (refs content) (head_of content); index = (names_at r).index } in
      let same : names ≡ names_at r = λ i. record { ref = same_refs i; head = same_head i; index = (names_at r).index } in
      let here : Denotes (over (state s.lender content s.index)) e a = subst (λ (m : FileMap). Denotes (over (state s.lender m s.index)) e a) is.files denotes in
      let whole : Denotes (whole_source names (objects content)) e a =
      denotes_on (refs content) (head_value (refs content) (head_of content)) (ids_in s.index) (names_at r).index (objects content) (HasFile content) (λ id. IsSome (objects content id))
      stored_there (file-objects content) e a (index_for e s.index is.index) here in
      subst (λ (n : Names). Denotes (whole_source n (layer_objects r.objects)) e a) same (subst (λ (o : ObjectMap). Denotes (whole_source names o) e a) (same_objects content r spells) whole)

  -- ---- what must be read for an expression gives no answer for a fault alone
  head_fails : (e : RefFault) → IsOfLook content e → (f : FilesFault) × (e ≡ ref.Fault f)
  head_fails (ref.Stale current) never = absurd never
  head_fails (ref.Conflict other) never = absurd never
  head_fails (ref.BadRefFile path) (inl none) = absurd (no_head content spells.head spells.head_shown none)
  head_fails (ref.BadRefFile path) (inr bad) = absurd (clean.refs _ bad)
  head_fails ref.HeadLoop none = absurd (no_head content spells.head spells.head_shown none)
  head_fails (ref.Fault f) look = (f, refl)

  ref_fails : (name : List ℕ) (e : RefFault) → BlamesRef content name e → (f : FilesFault) × (e ≡ ref.Fault f)
  ref_fails name (ref.Stale current) never = absurd never
  ref_fails name (ref.Conflict other) never = absurd never
  ref_fails name (ref.BadRefFile path) (same, bad) = absurd (clean.refs _ bad)
  ref_fails name ref.HeadLoop never = absurd never
  ref_fails name (ref.Fault f) look = (f, refl)

  object_fails : (id : ObjectId) (e : StoreFault) → IsRefused id (IsDamaged content id) e → (f : FilesFault) × (e ≡ store.Fault f)
  object_fails id (store.BadObject e) never = absurd never
  object_fails id (store.Absent other) never = absurd never
  object_fails id (store.Damaged other) (same, damaged) = absurd (clean.objects id damaged)
  object_fails id (store.Fault f) look = (f, refl)

  look_fails : (lender : ℕ) (index : IndexMap) (question : Question) (fault : SourceFault) → IsCause (state lender content index) question fault → IsFailure fault
  look_fails lender index asks.Head fault (e, blames, is) = of_look e fault (head_fails e (of_head_value content e blames)) is
  look_fails lender index (asks.Ref name) fault (e, blames, is) = of_look e fault (ref_fails name e blames) is
  look_fails lender index (asks.Entry path) fault never = absurd never
  look_fails lender index (asks.Prefix digits) fault (e, blames, is) = of_store e fault (store_fails e blames) is
  look_fails lender index (asks.Object id) fault (e, blames, is) = of_store e fault (object_fails id e blames) is

  index_fails : (e : ExprText) (fault : SourceFault) → IsOfIndexFor content e fault → IsFailure fault
  index_fails (Object rev) fault never = absurd never
  index_fails (InTree rev path) fault never = absurd never
  index_fails (InIndex path) (BadIndex place) (bytes, at, wrong) =
      absurd (no_bad_index content place (subst (λ (all : List ℕ). TextFault all place) (sym (ap (λ (file : Option (List ℕ)). unwrap_or file []) at)) wrong) spells.map (spells_index content r spells))
  index_fails (InIndex path) (Store (store.Fault f)) why = (f, refl)
  index_fails (InIndex path) (Store (store.BadObject e)) never = absurd never
  index_fails (InIndex path) (Store (store.Absent id)) never = absurd never
  index_fails (InIndex path) (Store (store.Damaged id)) never = absurd never
  index_fails (InIndex path) (BadRefFile other) never = absurd never
  index_fails (InIndex path) HeadLoop never = absurd never

  -- ---- what is told
  failed : (text : List ℕ) (fault : SourceFault) → IsFailure fault → TellsValue r text (Err (Source fault))
  failed text fault (f, is) = subst (λ (x : SourceFault). TellsValue r text (Err (Source x))) (sym is) tt

  refused : (text : List ℕ) (e : ExprText) (fault : RevFault) → IsExpr text e → IsOfExpr content e fault → TellsValue r text (Err fault)
  refused text e (Refused refusal) spelled (inl denotes) = inr (e, refusal, spelled, denotes_there e (Err refusal) denotes, refl)
  refused text e (Source fault) spelled (inl (s, is, inl memory)) = failed text fault (files.Memory, memory)
  refused text e (Source fault) spelled (inl (s, is, inr (question, asked, blames))) =
      failed text fault (look_fails s.lender s.index question fault (subst (λ (m : FileMap). IsCause (state s.lender m s.index) question fault) is.files blames))
  refused text e (Source fault) spelled (inr why) = failed text fault (index_fails e fault why)
  refused text e (Missing id) spelled (inl (s, is, never)) = absurd never
  refused text e (NotACommit id) spelled (inl (s, is, never)) = absurd never
  refused text e (Refused refusal) spelled (inr never) = absurd never
  refused text e (Missing id) spelled (inr never) = absurd never
  refused text e (NotACommit id) spelled (inr never) = absurd never

pub values_are_told : ValuesAreTold
values_are_told content r text e (Ok id) clean spells spelled value why = (e, spelled, denotes_there content r clean spells e (Ok id) value)
values_are_told content r text e (Err fault) clean spells spelled value why = refused content r clean spells text e fault spelled why
