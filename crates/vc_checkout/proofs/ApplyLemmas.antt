-- The work tree, one path after another.
use Rattle.std.proofs.Common.{◌≡◌, ◌≢◌, ℕ, true, false, ◌||◌, List, ◌∷◌, map, Option, Some, None, sym, ap, refl, ◌∙◌, subst, ◌⊎◌, inl, inr}
use Rattle.std.specs.Prelude.{Vec, IsSome, is_some, bytes_eq, option_map}
use Rattle.std.specs.Global.{Global}
use Rattle.std.specs.FinMap as files
use Rattle.std.specs.FinMap.{get}
use Rattle.std.proofs.lemmas.Slice.Eq.{bytes_eq-Decides}
use Rattle.std.proofs.lemmas.Bool.{false_from_ne_true}
use Rattle.vc_files.specs.FileMap.{FileMap}
use Rattle.vc_object.specs.ObjectMap.{ObjectMap}
use Rattle.vc_object.specs.declared.id.ObjectId.{ObjectId}
use Rattle.vc_object.specs.declared.mode.Mode.{Mode}
use Rattle.vc_object.specs.declared.mode.Mode.TheVariants as modes
use Rattle.vc_index.specs.IndexMap.{IndexMap}
use Rattle.vc_index.specs.declared.entry.IndexEntry.{IndexEntry}
use Rattle.vc_index.proofs.MapLemmas.{same_text, no_some}
use Rattle.vc_work_tree.proofs.ChangeLemmas.{put_at, put_others, removed_at, removed_others}
use Rattle.vc_checkout.specs.CheckedOut.{IsCheckedOut, IsCleared, IsOldOrCheckedOut, IsWritten, StepAt, StepOrNone, file_of, left_of}
use Rattle.vc_checkout.specs.WorkTree.{HasTextPaths}
use Rattle.vc_work_tree.specs.Paths.{is_same, is_listed}
use Rattle.vc_checkout.proofs.PathSetLemmas.{entry_paths}

abbrev pub Step : Type 1
Step = Option (List ℕ) → Option (List ℕ) → Type 0

-- ---- steps
pub step_same : (R : Step) (path : List ℕ) (m n : FileMap) → n ≡ m → R (get m path) (get m path) → StepAt R path m n
step_same R path m n is at = record { at = subst (λ (w : FileMap). R (get m path) (get w path)) (sym is) at; others = λ q apart. ap (λ w. get w q) is }

pub step_removed : (R : Step) (path : List ℕ) (m n : FileMap) → n ≡ files.remove m path → R (get m path) None → StepAt R path m n
step_removed R path m n is at = record { at = subst (R (get m path)) (sym (removed_at m n path is)) at; others = removed_others m n path is }

pub step_put : (R : Step) (path bytes : List ℕ) (m n : FileMap) → n ≡ files.insert m path bytes → R (get m path) (Some bytes) → StepAt R path m n
step_put R path bytes m n is at = record { at = subst (R (get m path)) (sym (put_at m n path bytes is)) at; others = put_others m n path bytes is }

pub step_map : (R S : Step) (path : List ℕ) (m n : FileMap) → (R (get m path) (get n path) → S (get m path) (get n path)) → StepAt R path m n → StepAt S path m n
step_map R S path m n f s = record { at = f s.at; others = s.others }

pub step_or_none_map : (R S : Step) (path : List ℕ) (m n : FileMap) → (R (get m path) (get n path) → S (get m path) (get n path)) → StepOrNone R path m n → StepOrNone S path m n
step_or_none_map R S path m n f (inl same) = inl same
step_or_none_map R S path m n f (inr s) = inr (step_map R S path m n f s)

-- ---- what becomes of an entry that goes
pub left_other : (mode : Mode) (file : Option (List ℕ)) → mode ≢ modes.Commit → left_of mode file ≡ None
left_other modes.Commit file other = absurd (other refl)
left_other modes.Tree file other = refl
left_other modes.File file other = refl
left_other modes.SharedFile file other = refl
left_other modes.Executable file other = refl
left_other modes.Link file other = refl

pub left_commit : (mode : Mode) (file : Option (List ℕ)) → mode ≡ modes.Commit → file ≡ left_of mode file
left_commit modes.Commit file is = refl
left_commit modes.Tree file is = cc is
left_commit modes.File file is = cc is
left_commit modes.SharedFile file is = cc is
left_commit modes.Executable file is = cc is
left_commit modes.Link file is = cc is

left_again : (mode : Mode) (file : Option (List ℕ)) → left_of mode (left_of mode file) ≡ left_of mode file
left_again modes.Commit file = refl
left_again modes.Tree file = refl
left_again modes.File file = refl
left_again modes.SharedFile file = refl
left_again modes.Executable file = refl
left_again modes.Link file = refl

one_entry : (o : Option IndexEntry) (x y : IndexEntry) → o ≡ Some x → o ≡ Some y → x ≡ y
one_entry o x y p q = cc (p, q)

pub none_some : (o : Option IndexEntry) (x : IndexEntry) → o ≡ None → o ≡ Some x → ⊥
none_some o x n s = cc (n, s)

pub cleared_gone : (old new : Option IndexEntry) (entry : IndexEntry) (file after : Option (List ℕ)) → old ≡ Some entry → new ≡ None → after ≡ left_of entry.mode file → IsCleared old new file after
cleared_gone old new entry file after is none left = record {
  gone = λ e known _. left ∙ ap (λ (x : IndexEntry). left_of x.mode file) (one_entry old entry e is known);
  unknown = λ no. absurd (none_some old entry no is);
  kept = λ some. absurd (no_some new none some);
}

pub cleared_unknown : (old new : Option IndexEntry) (file : Option (List ℕ)) → old ≡ None → IsCleared old new file file
cleared_unknown old new file none = record { gone = λ e known _. absurd (none_some old e none known); unknown = λ _. refl; kept = λ _. refl }

pub cleared_again : (old new : Option IndexEntry) (a b c : Option (List ℕ)) → IsCleared old new a b → IsCleared old new b c → IsCleared old new a c
cleared_again old new a b c first second = record {
  gone = λ e known none. second.gone e known none ∙ ap (left_of e.mode) (first.gone e known none) ∙ left_again e.mode a;
  unknown = λ none. second.unknown none ∙ first.unknown none;
  kept = λ some. second.kept some ∙ first.kept some;
}

-- ---- all paths: R tells what becomes of each
module _ (R : List ℕ → Step) where
  -- a path that is not left has become what it is to be, each other is so or as it was
  pub record Working (old now : FileMap) (rest : List (List ℕ)) : Type 0 where
    pub between : (q : List ℕ) → (get now q ≡ get old q) ⊎ R q (get old q) (get now q)
    pub done : (q : List ℕ) → is_listed q rest ≡ false → R q (get old q) (get now q)

module _ (R : List ℕ → Step) (again : (q : List ℕ) (a b c : Option (List ℕ)) → R q a b → R q b c → R q a c) where
  pub working_start : (old now : FileMap) (rest : List (List ℕ)) → now ≡ old → ((q : List ℕ) → is_listed q rest ≡ false → R q (get old q) (get old q)) → Working R old now rest
  working_start old now rest same free = record {
    between = λ q. inl (ap (λ w. get w q) same);
    done = λ q lacks. subst (λ (w : FileMap). R q (get old q) (get w q)) (sym same) (free q lacks);
  }

  at_step : (old mid now : FileMap) (k : List ℕ) → (get mid k ≡ get old k) ⊎ R k (get old k) (get mid k) → R k (get mid k) (get now k) → R k (get old k) (get now k)
  at_step old mid now k (inl same) r = subst (λ (o : Option (List ℕ)). R k o (get now k)) same r
  at_step old mid now k (inr was) r = again k (get old k) (get mid k) (get now k) was r

  at_other : (old mid now : FileMap) (q : List ℕ) → get now q ≡ get mid q → (get mid q ≡ get old q) ⊎ R q (get old q) (get mid q) → (get now q ≡ get old q) ⊎ R q (get old q) (get now q)
  at_other old mid now q same (inl was) = inl (same ∙ was)
  at_other old mid now q same (inr r) = inr (subst (R q (get old q)) (sym same) r)

  decide : (q k : List ℕ) → (q ≡ k) ⊎ (q ≢ k)
  decide q k = elim (bytes_eq q k) as (λ b. bytes_eq q k ≡ b → (q ≡ k) ⊎ (q ≢ k)) [
    | true ↦ λ e. inl ((bytes_eq-Decides q k).0 e)
    | false ↦ λ e. inr (λ same. let t = (bytes_eq-Decides q k).1 same in cc (e, t))
  ] refl

  step_between : (old mid now : FileMap) (k : List ℕ) → StepAt (R k) k mid now → ((q : List ℕ) → (get mid q ≡ get old q) ⊎ R q (get old q) (get mid q)) → (q : List ℕ) → (get now q ≡ get old q) ⊎ R q (get old q) (get now q)
  step_between old mid now k step so q = by (decide q k)
    where
      by : (q ≡ k) ⊎ (q ≢ k) → (get now q ≡ get old q) ⊎ R q (get old q) (get now q)
      by (inl same) = inr (subst (λ (p : List ℕ). R p (get old p) (get now p)) (sym same) (at_step old mid now k (so k) step.at))
      by (inr apart) = at_other old mid now q (step.others q apart) (so q)

  pub working_more : (old mid now : FileMap) (before rest : List (List ℕ)) (k : List ℕ) → before ≡ k ∷ rest → StepAt (R k) k mid now → Working R old mid before → Working R old now rest
  working_more old mid now before rest k first step so = record {
    between = step_between old mid now k step so.between;
    done = λ q lacks. by q lacks (decide q k);
  }
    where
      by : (q : List ℕ) → is_listed q rest ≡ false → (q ≡ k) ⊎ (q ≢ k) → R q (get old q) (get now q)
      by q lacks (inl same) = subst (λ (p : List ℕ). R p (get old p) (get now p)) (sym same) (at_step old mid now k (so.between k) step.at)
      by q lacks (inr apart) = subst (R q (get old q)) (sym (step.others q apart)) (so.done q (ap (is_listed q) first ∙ ap (λ b. b || is_listed q rest) (false_from_ne_true (is_same q k) (λ e. apart (same_text q k e))) ∙ lacks))

  pub working_stop : (old mid now : FileMap) (before : List (List ℕ)) (k : List ℕ) → StepOrNone (R k) k mid now → Working R old mid before → (q : List ℕ) → (get now q ≡ get old q) ⊎ R q (get old q) (get now q)
  working_stop old mid now before k (inl same) so q = at_other old mid now q (ap (λ w. get w q) same) (so.between q)
  working_stop old mid now before k (inr step) so q = step_between old mid now k step so.between q

-- a path that no entry has
pub no_entry : (es : List (Vec ℕ Global × IndexEntry)) (m : IndexMap) → map (λ e. (e.0.items, e.1)) es ≡ files.entries m → (q : List ℕ) → is_listed q (map (λ e. e.0.items) es) ≡ false → get m q ≡ None
no_entry es m is q lacks = by_option (get m q) (sym (entry_paths es m is q) ∙ lacks)
  where
    by_option : (o : Option IndexEntry) → is_some o ≡ false → o ≡ None
    by_option None e = refl
    by_option (Some x) e = cc e

-- a file that is there after clearing was there
pub cleared_some : (i t : Option IndexEntry) (a b : Option (List ℕ)) → (b ≡ a) ⊎ IsCleared i t a b → IsSome b → IsSome a
cleared_some i t a b (inl same) s = subst IsSome same s
cleared_some None t a b (inr r) s = subst IsSome (r.unknown refl) s
cleared_some (Some e) (Some f) a b (inr r) s = subst IsSome (r.kept refl) s
cleared_some (Some e) None a b (inr r) s = left_some e.mode a (subst IsSome (r.gone e refl refl) s)
  where
    left_some : (mode : Mode) (file : Option (List ℕ)) → IsSome (left_of mode file) → IsSome file
    left_some modes.Commit file s = s
    left_some modes.Tree file s = cc s
    left_some modes.File file s = cc s
    left_some modes.SharedFile file s = cc s
    left_some modes.Executable file s = cc s
    left_some modes.Link file s = cc s

-- clearing leaves paths of text
pub cleared_texts : (index tree : IndexMap) (old now : FileMap) → HasTextPaths old → ((q : List ℕ) → (get now q ≡ get old q) ⊎ IsCleared (get index q) (get tree q) (get old q) (get now q)) → HasTextPaths now
cleared_texts index tree old now texts so q some = texts q (cleared_some (get index q) (get tree q) (get old q) (get now q) (so q) some)

-- ---- what is written
pub file_commit : (objects : ObjectMap) (mode : Mode) (id : ObjectId) → mode ≡ modes.Commit → None ≡ file_of objects mode id
file_commit objects modes.Commit id is = refl
file_commit objects modes.Tree id is = cc is
file_commit objects modes.File id is = cc is
file_commit objects modes.SharedFile id is = cc is
file_commit objects modes.Executable id is = cc is
file_commit objects modes.Link id is = cc is

pub file_blob : (objects : ObjectMap) (mode : Mode) (id : ObjectId) (body : List ℕ) → mode ≢ modes.Commit → option_map (λ object. object.body) (objects id) ≡ Some body → Some body ≡ file_of objects mode id
file_blob objects modes.Commit id body other is = absurd (other refl)
file_blob objects modes.Tree id body other is = sym is
file_blob objects modes.File id body other is = sym is
file_blob objects modes.SharedFile id body other is = sym is
file_blob objects modes.Executable id body other is = sym is
file_blob objects modes.Link id body other is = sym is

pub written_due : (objects : ObjectMap) (old new : Option IndexEntry) (entry : IndexEntry) (file after : Option (List ℕ)) → new ≡ Some entry → old ≢ new → after ≡ file_of objects entry.mode entry.id → IsWritten objects old new file after
written_due objects old new entry file after is apart wrote = record {
  due = λ e known _. wrote ∙ ap (λ (x : IndexEntry). file_of objects x.mode x.id) (one_entry new entry e is known);
  same = λ same. absurd (apart same);
  none = λ no. absurd (none_some new entry no is);
}

pub written_none : (objects : ObjectMap) (old new : Option IndexEntry) (file : Option (List ℕ)) → new ≡ None → IsWritten objects old new file file
written_none objects old new file none = record { due = λ e known _. absurd (none_some new e none known); same = λ _. refl; none = λ _. refl }

pub written_again : (objects : ObjectMap) (old new : Option IndexEntry) (a b c : Option (List ℕ)) → IsWritten objects old new a b → IsWritten objects old new b c → IsWritten objects old new a c
written_again objects old new a b c first second = record {
  due = λ e known apart. second.due e known apart;
  same = λ same. second.same same ∙ first.same same;
  none = λ none. second.none none ∙ first.none none;
}

-- ---- both phases
pub checked_out : (objects : ObjectMap) (i t : Option IndexEntry) (a b c : Option (List ℕ)) → IsCleared i t a b → IsWritten objects i t b c → IsCheckedOut objects i t a c
checked_out objects i t a b c cleared written = record {
  same = λ same. written.same same ∙ stays i t same cleared;
  written = written.due;
  gone = λ e known none. written.none none ∙ cleared.gone e known none;
}
  where
    stays : (i t : Option IndexEntry) → i ≡ t → IsCleared i t a b → b ≡ a
    stays None t same r = r.unknown refl
    stays (Some e) None same r = cc same
    stays (Some e) (Some f) same r = r.kept refl

-- a path that is cleared, or not yet, is as it was or as it is to be
pub cleared_or_old : (objects : ObjectMap) (i t : Option IndexEntry) (a b : Option (List ℕ)) → (b ≡ a) ⊎ IsCleared i t a b → (b ≡ a) ⊎ IsCheckedOut objects i t a b
cleared_or_old objects i t a b (inl same) = inl same
cleared_or_old objects i (Some e) a b (inr cleared) = inl (cleared.kept refl)
cleared_or_old objects i None a b (inr cleared) = inr (checked_out objects i None a b b cleared (written_none objects i None b refl))

pub written_or_old : (objects : ObjectMap) (i t : Option IndexEntry) (a b c : Option (List ℕ)) → IsCleared i t a b → (c ≡ b) ⊎ IsWritten objects i t b c → (c ≡ a) ⊎ IsCheckedOut objects i t a c
written_or_old objects i t a b c cleared (inr written) = inr (checked_out objects i t a b c cleared written)
written_or_old objects i t a b c cleared (inl same) = subst (λ (x : Option (List ℕ)). (x ≡ a) ⊎ IsCheckedOut objects i t a x) (sym same) (cleared_or_old objects i t a b (inr cleared))

module _ (objects : ObjectMap) (index tree : IndexMap) (old : FileMap) where
  pub old_or_cleared : (now : FileMap) → ((q : List ℕ) → (get now q ≡ get old q) ⊎ IsCleared (get index q) (get tree q) (get old q) (get now q)) → (q : List ℕ) → IsOldOrCheckedOut objects index tree old now q
  old_or_cleared now so q = cleared_or_old objects (get index q) (get tree q) (get old q) (get now q) (so q)

  pub old_or_written : (mid now : FileMap) → ((q : List ℕ) → IsCleared (get index q) (get tree q) (get old q) (get mid q)) → ((q : List ℕ) → (get now q ≡ get mid q) ⊎ IsWritten objects (get index q) (get tree q) (get mid q) (get now q)) → (q : List ℕ) → IsOldOrCheckedOut objects index tree old now q
  old_or_written mid now cleared so q = written_or_old objects (get index q) (get tree q) (get old q) (get mid q) (get now q) (cleared q) (so q)
