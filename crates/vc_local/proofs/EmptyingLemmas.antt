-- What opening the files of a node leaves of them, where their quarantines are emptied first.
use Rattle.std.proofs.Common.{inl, ◌≡◌, ℕ, true, false, cond, ◌&&◌, nat_eq, List, ◌++◌, drop, take, map, None, Result, Ok, Err, OnOk, sym, ap, refl, ◌∙◌, subst, []}
use Rattle.std.specs.Prelude.{IfErr, OnErr, bytes_eq, codes, is_some, unwrap_or, String, string_bytes, option_map}
use Rattle.std.specs.FinMap as files
use Rattle.std.specs.Global.{Global}
use Rattle.std.specs.List.{starts_with}
use Rattle.std.specs.Ordering.{nat_cmp, eq_by_cmp}
use Rattle.std.specs.Cmp.Lexicographic.{slice_cmp}
use Rattle.std.proofs.lemmas.Bool.{or_parts}
use Rattle.std.proofs.lemmas.List.{map-append, take-append-drop}
use Rattle.std.proofs.lemmas.List.Folds.{list_any-append}
use Rattle.vc_files.specs.FileMap.{FileMap, paths_under}
use Rattle.vc_index.specs.IndexText.{TextFault}
use Rattle.vc_lemmas.proofs.Texts.{split_from_starts}
use Rattle.vc_model.specs.Repository.{Repository}
use Rattle.vc_local.specs.Blames.{BlamesOpen}
use Rattle.vc_local.specs.Clean.{KeepsClean}
use Rattle.vc_local.specs.IndexFile.{index_bytes}
use Rattle.vc_local.specs.Machine.{HoldsNode, Spells}
use Rattle.vc_local.specs.Opening.{IsOpenable, opened_node}
use Rattle.vc_local.specs.Shown.{IsReady, Shown, opened, shown}
use Rattle.vc_local.specs.declared.fault.NodeFault.{NodeFault}
use Rattle.vc_local.specs.declared.fault.NodeFault.TheVariants.{Store, Ref, Missing, NotACommit, BadPath, PathConflict, BadIndex, WrongEntry, Down}
use Rattle.vc_refs.proofs.PathLemmas.{is_among, is_among-paths_under}
use Rattle.vc_refs.specs.Head.{read_head, head_of}
use Rattle.vc_refs.specs.RefFault.{BlamesHead}
use Rattle.vc_refs.specs.Refs.{packed_path, refs}
use Rattle.vc_refs.specs.declared.faults.RefFault.{RefFault}
use Rattle.vc_refs.specs.declared.faults.RefFault.TheVariants.{Stale, Conflict, BadRefFile, HeadLoop, Fault}
use Rattle.vc_refs.proofs.LayeredLemmas.{packed_map-same}
use Rattle.vc_refs.proofs.LayeredListingLemmas.{head_of-same}
use Rattle.vc_quarantine.proofs.CleanLemmas.{bad_loses}
use Rattle.vc_push_rules.proofs.FrameLemmas.{refs-kept}
use Rattle.vc_push_rules.proofs.QuarantineLemmas.{Taken, taken_left, none_left}
use Rattle.vc_object_map.specs.Store.{object_path, objects}
use Rattle.vc_model.specs.Clone.Awaited.{Nothing}
use Rattle.vc_local.proofs.CleanLemmas.{clean_on as kept_on, clean_then}
use Rattle.vc_local.proofs.OpeningLaws.{made_ready}
use Rattle.vc_local.proofs.BesideLemmas.{clean_by, clean_on}
use Rattle.vc_local.proofs.ShownLemmas.{objects_same, same_shown}
use Rattle.vc_local.specs.Emptying.{AreEmpty, IsOpened, LosesCarried, quarantines}
use Rattle.vc_push_rules.specs.Quarantine.{IsDropped, quarantine_folder}

-- ---- files that are taken away

pub all_empty : (old now : FileMap) → Taken old now (paths_under old quarantines) → AreEmpty now
all_empty old now t path under =
    t.at path
    ∙ ap (λ b. cond b None (files.get old path)) (is_among-paths_under old quarantines path ∙ ap (λ b. b && is_some (files.get old path)) under)
    ∙ none_left (files.get old path)

-- as some of the paths are taken away, what is outside stays
pub taken_loses : (old now : FileMap) (items : List (String Global)) (i : ℕ) → map string_bytes items ≡ paths_under old quarantines → Taken old now (map string_bytes (take i items)) → LosesCarried old now
taken_loses old now items i listed t = record {
  outside = record {
    at = λ path outside.
        let front = map string_bytes (take i items) in
        let back = map string_bytes (drop i items) in
        let whole : front ++ back ≡ paths_under old quarantines = sym (map-append string_bytes (take i items) (drop i items)) ∙ ap (map string_bytes) (take-append-drop i items) ∙ listed in
        let none : is_among path (front ++ back) ≡ false = ap (is_among path) whole ∙ is_among-paths_under old quarantines path ∙ ap (λ b. b && is_some (files.get old path)) outside in
        let no : is_among path front ≡ false = (or_parts _ _ (sym (list_any-append (eq_by_cmp (slice_cmp nat_cmp) path) front back) ∙ none)).0 in
        t.at path ∙ ap (λ b. cond b None (files.get old path)) no;
  };
  left = taken_left t;
}

pub loses_none : (old now : FileMap) → now ≡ old → LosesCarried old now
loses_none old now same = record {
  outside = record { at = λ path outside. ap (λ (m : FileMap). files.get m path) same };
  left = record { at = λ path. inl (ap (λ (m : FileMap). files.get m path) same) };
}

pub loses_on : (old mid now : FileMap) → LosesCarried old mid → now ≡ mid → LosesCarried old now
loses_on old mid now loses same = subst (λ (m : FileMap). LosesCarried old m) (sym same) loses

-- no file becomes bad
pub clean_lost : (old new : FileMap) → LosesCarried old new → KeepsClean old new
clean_lost old new loses = clean_by old new (bad_loses old new loses.left) (packed_map-same old new (loses.outside.at packed_path refl))

-- ---- what files show then
no_ref_there : (q : List ℕ) → starts_with nat_eq q (codes "refs/") ≡ true → starts_with nat_eq q quarantines ≡ false
no_ref_there q h = ap (λ p. starts_with nat_eq p quarantines) (split_from_starts q (codes "refs/") h)

module _ (old new : FileMap) (loses : LosesCarried old new) where
  index_kept : index_bytes new ≡ index_bytes old
  index_kept = ap (λ found. unwrap_or found []) (loses.outside.at (codes "index") refl)

  pub shown_kept : shown new ≡ shown old
  shown_kept =
      same_shown (objects new) (objects old) (refs new) (refs old) (head_of new) (head_of old) (index_bytes new) (index_bytes old)
      (objects_same old new (λ name. loses.outside.at (object_path name) refl))
      (refs-kept old new (λ q h. loses.outside.at q (no_ref_there q h)) (loses.outside.at packed_path refl))
      (head_of-same old new (loses.outside.at (codes "HEAD") refl)) index_kept

  -- HEAD says the same
  head_text : option_map read_head (files.get new (codes "HEAD")) ≡ option_map read_head (files.get old (codes "HEAD"))
  head_text = ap (option_map read_head) (loses.outside.at (codes "HEAD") refl)

  pub openable_kept : (r : Repository) → IsOpenable old r → IsOpenable new r
  openable_kept r can = record {
    spells = subst (λ (s : Shown). Spells (opened s.head s) r) (sym shown_kept) can.spells;
    clean = clean_on old new (bad_loses old new loses.left) can.clean;
    head = record { good = λ bad. can.head.good (sym head_text ∙ bad); ends = λ loop. can.head.ends (sym head_text ∙ loop) };
  }

  -- a refusal is for the same files
  blames_head : (e : RefFault) → BlamesHead new e → BlamesHead old e
  blames_head (Stale current) h = h
  blames_head (Conflict other) h = h
  blames_head (BadRefFile path) h = (h.0, sym head_text ∙ h.1)
  blames_head HeadLoop h = sym head_text ∙ h
  blames_head (Fault fault) h = h

  pub blames_kept : (e : NodeFault) → BlamesOpen new e → BlamesOpen old e
  blames_kept (Store fault) h = h
  blames_kept (BadIndex place) h = subst (λ (text : List ℕ). TextFault text place) index_kept h
  blames_kept (Ref fault) h = blames_head fault h
  blames_kept (Missing id) h = h
  blames_kept (NotACommit id) h = h
  blames_kept BadPath h = h
  blames_kept PathConflict h = h
  blames_kept (WrongEntry at) h = h
  blames_kept Down h = h

-- none is left of a slot's
pub empty_slot : (slot : ℕ) (content : FileMap) → AreEmpty content → IsDropped slot content
empty_slot slot content empty path inside = empty path (ap (λ p. starts_with nat_eq p quarantines) (split_from_starts path (quarantine_folder slot) inside))

-- and making the files ready puts nothing there
pub opened_empty : (old new : FileMap) → IsOpened old new → AreEmpty new
opened_empty old new o path inside = o.ready.only.at path (ap (λ p. bytes_eq p (codes "HEAD")) (split_from_starts path quarantines inside)) ∙ o.empty path inside

-- ---- what is opened
pub opened_holds : (old new : FileMap) (r : Repository) → IsOpened old new → IsOpenable old r → HoldsNode new true Nothing (opened_node r)
opened_holds old new r o can = made_ready o.mid new r o.ready o.keeps (openable_kept old o.mid o.loses r can)

pub opened_by : {T E : Type 0} (old mid new : FileMap) (r : Result T E) → LosesCarried old mid → AreEmpty mid → OnOk r (IsReady mid new) → OnOk r (KeepsClean mid new) → OnOk r (IsOpened old new)
opened_by old mid new (Ok x) loses empty ready keeps = record { mid = mid; loses = loses; empty = empty; ready = ready; keeps = keeps }
opened_by old mid new (Err e) loses empty ready keeps = tt

-- where they could not be opened
pub refused_by : {T : Type 0} (old mid : FileMap) (r : Result T NodeFault) → LosesCarried old mid → IfErr r (BlamesOpen mid) → IfErr r (BlamesOpen old)
refused_by old mid (Ok x) loses why = tt
refused_by old mid (Err e) loses why = blames_kept old mid loses e why

pub lost_by : {T E : Type 0} (old mid new : FileMap) (r : Result T E) → LosesCarried old mid → OnErr r (new ≡ mid) → OnErr r (LosesCarried old new)
lost_by old mid new (Ok x) loses same = tt
lost_by old mid new (Err e) loses same = loses_on old mid new loses same

pub clean_either : {T E : Type 0} (old mid new : FileMap) (r : Result T E) → LosesCarried old mid → OnOk r (KeepsClean mid new) → OnErr r (new ≡ mid) → KeepsClean old new
clean_either old mid new (Ok x) loses keeps same = clean_then old mid new (clean_lost old mid loses) keeps
clean_either old mid new (Err e) loses keeps same = kept_on old mid new (clean_lost old mid loses) same
