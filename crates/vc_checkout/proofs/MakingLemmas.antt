-- The folders of a work tree while what is due is written.
use Rattle.std.proofs.Common.{◌≡◌, ◌≢◌, ℕ, Bool, true, false, not, ◌||◌, List, [], ◌∷◌, Option, Some, None, sym, ap, refl, ◌∙◌, subst, ◌⊎◌, inl, inr}
use Rattle.std.specs.Prelude.{IsSome, option_map}
use Rattle.std.specs.FinMap as files
use Rattle.std.specs.FinMap.{get}
use Rattle.std.proofs.Math.Bool.{or-true}
use Rattle.vc_files.specs.FileMap.{FileMap}
use Rattle.vc_object.specs.ObjectMap.{ObjectMap}
use Rattle.vc_object.specs.declared.mode.Mode.{Mode}
use Rattle.vc_object.specs.declared.mode.Mode.TheVariants as modes
use Rattle.vc_index.specs.IndexMap.{IndexMap, IsIndex}
use Rattle.vc_index.specs.Loading.{IsBlobIfDue}
use Rattle.vc_index.specs.Path.{IsAbove}
use Rattle.vc_index.specs.declared.entry.IndexEntry.{IndexEntry}
use Rattle.vc_index.proofs.MapLemmas.{is_eq-same}
use Rattle.vc_checkout.specs.Blobs.{HasDueBlob}
use Rattle.vc_checkout.specs.CheckedOut.{IsWritten, StepAt, file_of}
use Rattle.vc_work_tree.specs.Folders.{AreFolders, Folders, IsAtOrIn, IsFolder, IsFolderBy}
use Rattle.vc_checkout.specs.FoldersAfter.{AreBetween, GivesWay, GivesWayBy, IsFolderAfter, IsFolderFor, IsLeftBy, IsLink, IsLinked, IsMadeBy, IsMadeFor, Stays, TakesPlace}
use Rattle.vc_checkout.specs.Refusal.{IsDue}
use Rattle.vc_checkout.proofs.ApplyLemmas.{file_blob}
use Rattle.vc_work_tree.proofs.ChangeLemmas.{put_others}
use Rattle.vc_work_tree.proofs.FolderLemmas.{folder_above, folder_itself, in_either, in_or_not, same_or_not, still_folders}
use Rattle.vc_work_tree.specs.Paths.{is_same, is_listed}
use Rattle.vc_checkout.proofs.LeavingLemmas.{are_same, covered, exact_between, is_folder, same_or_before, unnot}

abbrev Those : Type 1
Those = List ℕ → Type 0

-- ---- one entry is written
pub decide_commit : (mode : Mode) → (mode ≡ modes.Commit) ⊎ (mode ≢ modes.Commit)
decide_commit modes.Commit = inl refl
decide_commit modes.Tree = inr (λ e. cc e)
decide_commit modes.File = inr (λ e. cc e)
decide_commit modes.SharedFile = inr (λ e. cc e)
decide_commit modes.Executable = inr (λ e. cc e)
decide_commit modes.Link = inr (λ e. cc e)

module _ (old now : FileMap) (was new : Folders) (entry : IndexEntry) (path : List ℕ) where
  abbrev pub Put : Those
  Put d = IsLink entry path d ⊎ (IsFolder old was d × (TakesPlace entry path d → ⊥))

  pub put_file : entry.mode ≢ modes.Commit → AreFolders now new (λ d. IsFolder old was d × (IsAtOrIn path d → ⊥)) → AreFolders now new Put
  put_file file are = are_same now new (λ d. IsFolder old was d × (IsAtOrIn path d → ⊥)) Put are (λ d is. inr (is.0, λ place. is.1 place.1)) back
    where
      back : (d : List ℕ) → Put d → IsFolder old was d × (IsAtOrIn path d → ⊥)
      back d (inl link) = absurd (file link.1)
      back d (inr is) = (is.0, λ at. is.1 (file, at))

  -- a file at the path gave way to the folder
  pub put_folder : (mid : FileMap) (held : Folders) → entry.mode ≡ modes.Commit → ((r : List ℕ) → IsSome (get mid r) → IsSome (get now r)) → AreFolders mid held (IsFolder old was) → AreFolders now new (λ d. IsFolder mid held d ⊎ (d ≡ path)) → AreFolders now new Put
  put_folder mid held commit files first second = record { exact = λ d. (λ is. there d ((second.exact d).0 is), λ is. (second.exact d).1 (back d is)) }
    where
      one_there : (one : List ℕ) → IsFolderBy mid (IsFolder old was) one → IsFolderBy now Put one
      one_there one (inl (r, above, some)) = inl (r, above, files r some)
      one_there one (inr (two, is, at)) = inr (two, inr (is, λ place. place.0 commit), at)

      there : (d : List ℕ) → IsFolderBy now (λ d. IsFolder mid held d ⊎ (d ≡ path)) d → IsFolderBy now Put d
      there d (inl file) = inl file
      there d (inr (one, inl is, at)) = folder_above now Put d one at (one_there one ((first.exact one).0 is))
      there d (inr (one, inr same, at)) = inr (one, inl (same, commit), at)

      back : (d : List ℕ) → IsFolderBy now Put d → IsFolderBy now (λ d. IsFolder mid held d ⊎ (d ≡ path)) d
      back d (inl file) = inl file
      back d (inr (one, inl link, at)) = inr (one, inr link.0, at)
      back d (inr (one, inr is, at)) = inr (one, inl (is_folder mid held (IsFolder old was) one first is.0), at)

  abbrev Least : Those
  Least d = IsFolder old was d × (TakesPlace entry path d → ⊥)

  abbrev Most : Those
  Most d = IsFolder old was d ⊎ IsFolderFor entry path d

  pub put_between : ((r : List ℕ) → IsSome (get now r) → IsSome (get old r) ⊎ (r ≡ path)) → AreFolders now new Put → AreBetween now new Least Most
  put_between files are = exact_between now new Put Least Most are (λ d is. inr is) (λ r some d above. by d r above (files r some)) (λ one d p at. ones one d p at)
    where
      by : (d r : List ℕ) → IsAbove d r → IsSome (get old r) ⊎ (r ≡ path) → Most d
      by d r above (inl some) = inl (inl (r, above, some))
      by d r above (inr same) = inr (inl (subst (IsAbove d) same above))

      link : (one d : List ℕ) → IsLink entry path one → IsAtOrIn d one → Most d
      link one d is (inl same) = inr (inr (sym same ∙ is.0, is.1))
      link one d is (inr above) = inr (inl (subst (IsAbove d) is.0 above))

      ones : (one d : List ℕ) → Put one → IsAtOrIn d one → Most d
      ones one d (inl is) at = link one d is at
      ones one d (inr is) at = inl (folder_above old _ d one at is.0)

  -- what only lost its file at the path
  pub lost_between : ((r : List ℕ) → IsSome (get now r) → IsSome (get old r)) → AreFolders now new (IsFolder old was) → AreBetween now new Least Most
  lost_between files are = exact_between now new (IsFolder old was) Least Most are (λ d is. is.0) (λ r some d above. inl (inl (r, above, files r some))) (λ one d is at. inl (folder_above old _ d one at is))

pub was_or_put : (old now : FileMap) (path bytes : List ℕ) → now ≡ files.insert old path bytes → (r : List ℕ) → IsSome (get now r) → IsSome (get old r) ⊎ (r ≡ path)
was_or_put old now path bytes is r some = by (same_or_not r path)
  where
    by : (r ≡ path) ⊎ (r ≢ path) → IsSome (get old r) ⊎ (r ≡ path)
    by (inl same) = inr same
    by (inr other) = inl (subst (λ (o : Option (List ℕ)). IsSome o) (put_others old now path bytes is r other) some)

-- ---- what is at a path
module _ (i t : Option IndexEntry) (path : List ℕ) where
  same_entry : (x y : IndexEntry) → Some x ≡ Some y → x ≡ y
  same_entry x y e = cc e

  module _ (entry : IndexEntry) (is : t ≡ Some entry) (apart : i ≢ t) (work : FileMap) (held : Folders) (Was : Those) where
    pub gives_as : (d : List ℕ) → TakesPlace entry path d → GivesWay i t path d
    gives_as d place = (entry, is, apart, place)

    pub gives_was : (d : List ℕ) → GivesWay i t path d → TakesPlace entry path d
    gives_was d (other, there, differs, place) = subst (λ (e : IndexEntry). TakesPlace e path d) (same_entry other entry (sym there ∙ is)) place

    pub due_exact : AreFolders work held (λ d. IsLink entry path d ⊎ (Was d × (TakesPlace entry path d → ⊥))) → AreFolders work held (λ d. ((d ≡ path) × IsLinked i t) ⊎ (Was d × (GivesWay i t path d → ⊥)))
    due_exact are = are_same work held _ (λ d. ((d ≡ path) × IsLinked i t) ⊎ (Was d × (GivesWay i t path d → ⊥))) are there back
      where
        there : (d : List ℕ) → IsLink entry path d ⊎ (Was d × (TakesPlace entry path d → ⊥)) → ((d ≡ path) × IsLinked i t) ⊎ (Was d × (GivesWay i t path d → ⊥))
        there d (inl link) = inl (link.0, (entry, is, apart, link.1))
        there d (inr w) = inr (w.0, λ gives. w.1 (gives_was d gives))

        back : (d : List ℕ) → ((d ≡ path) × IsLinked i t) ⊎ (Was d × (GivesWay i t path d → ⊥)) → IsLink entry path d ⊎ (Was d × (TakesPlace entry path d → ⊥))
        back d (inl (same, (other, there, differs, commit))) = inl (same, subst (λ (e : IndexEntry). e.mode ≡ modes.Commit) (same_entry other entry (sym there ∙ is)) commit)
        back d (inr w) = inr (w.0, λ place. w.1 (gives_as d place))

    pub due_between : AreBetween work held (λ d. Was d × (TakesPlace entry path d → ⊥)) (λ d. Was d ⊎ IsFolderFor entry path d) → AreBetween work held (λ d. Was d × (GivesWay i t path d → ⊥)) (λ d. Was d ⊎ IsMadeFor i t path d)
    due_between are = record { least = λ d w. are.least d (w.0, λ place. w.1 (gives_as d place)); most = λ d f. by d (are.most d f) }
      where
        by : (d : List ℕ) → Was d ⊎ IsFolderFor entry path d → Was d ⊎ IsMadeFor i t path d
        by d (inl w) = inl w
        by d (inr for_it) = inr (entry, is, apart, for_it)

  no_none : (entry : IndexEntry) → t ≡ None → t ≡ Some entry → ⊥
  no_none entry n s = cc (n, s)

  -- nothing is due
  module _ (idle : (i ≡ t) ⊎ (t ≡ None)) where
    pub no_link : IsLinked i t → ⊥
    no_link (entry, is, apart, commit) = by idle
      where
        by : (i ≡ t) ⊎ (t ≡ None) → ⊥
        by (inl same) = apart same
        by (inr none) = no_none entry none is

    pub no_way : (d : List ℕ) → GivesWay i t path d → ⊥
    no_way d (entry, is, apart, place) = by idle
      where
        by : (i ≡ t) ⊎ (t ≡ None) → ⊥
        by (inl same) = apart same
        by (inr none) = no_none entry none is

    pub idle_exact : (work : FileMap) (held : Folders) → AreFolders work held (λ d. ((d ≡ path) × IsLinked i t) ⊎ (IsFolder work held d × (GivesWay i t path d → ⊥)))
    idle_exact work held = are_same work held (IsFolder work held) _ (still_folders work held) (λ d is. inr (is, no_way d)) back
      where
        back : (d : List ℕ) → ((d ≡ path) × IsLinked i t) ⊎ (IsFolder work held d × (GivesWay i t path d → ⊥)) → IsFolder work held d
        back d (inl link) = absurd (no_link link.1)
        back d (inr is) = is.0

  -- a path's entry is idle, a link, or a file
  abbrev pub Filed : Type 0
  Filed = (entry : IndexEntry) × (t ≡ Some entry) × (i ≢ t) × (entry.mode ≢ modes.Commit)

  pub cases : ((i ≡ t) ⊎ (t ≡ None)) ⊎ IsDue i t → ((i ≡ t) ⊎ (t ≡ None)) ⊎ (IsLinked i t ⊎ Filed)
  cases (inl idle) = inl idle
  cases (inr due) = inr (by t refl due.0)
    where
      by : (o : Option IndexEntry) → t ≡ o → IsSome t → IsLinked i t ⊎ Filed
      by None is some = absurd (let e : IsSome {T = IndexEntry} None = subst IsSome is some in cc e)
      by (Some entry) is some = by_mode (decide_commit entry.mode)
        where
          by_mode : (entry.mode ≡ modes.Commit) ⊎ (entry.mode ≢ modes.Commit) → IsLinked i t ⊎ Filed
          by_mode (inl commit) = inl (entry, is, due.1, commit)
          by_mode (inr file) = inr (entry, is, due.1, file)

  filed_way : Filed → (d : List ℕ) → IsAtOrIn path d → GivesWay i t path d
  filed_way (entry, is, apart, file) d at = (entry, is, apart, (file, at))

  way_filed : (d : List ℕ) → GivesWay i t path d → Filed
  way_filed d (entry, is, apart, place) = (entry, is, apart, place.0)

  -- the files after a path was written
  module _ (objects : ObjectMap) (blobs : HasDueBlob objects i t) (mid now : FileMap) (step : StepAt (IsWritten objects i t) path mid now) where
    some_blob : (entry : IndexEntry) (o : Option (List ℕ)) → IsBlobIfDue objects entry → entry.mode ≢ modes.Commit → o ≡ file_of objects entry.mode entry.id → IsSome o
    some_blob entry o blob file is =
        let (body, stored) = blob file in
        subst IsSome (sym (is ∙ sym (file_blob objects entry.mode entry.id body file (ap (option_map (λ object. object.body)) stored)))) refl

    pub filed_there : Filed → IsSome (get now path)
    filed_there (entry, is, apart, file) = some_blob entry (get now path) (blobs entry is apart) file (step.at.due entry is apart)

    pub written_lost : ((i ≡ t) ⊎ (t ≡ None)) ⊎ (IsLinked i t ⊎ Filed) → (r : List ℕ) → IsSome (get mid r) → IsSome (get now r) ⊎ ((r ≡ path) × IsLinked i t)
    written_lost how r some = by (same_or_not r path) how
      where
        here : r ≡ path → IsSome (get mid path)
        here same = subst (λ (p : List ℕ). IsSome (get mid p)) same some

        there : r ≡ path → IsSome (get now path) → IsSome (get now r)
        there same is = subst (λ (p : List ℕ). IsSome (get now p)) (sym same) is

        by : (r ≡ path) ⊎ (r ≢ path) → ((i ≡ t) ⊎ (t ≡ None)) ⊎ (IsLinked i t ⊎ Filed) → IsSome (get now r) ⊎ ((r ≡ path) × IsLinked i t)
        by (inr apart) how = inl (subst IsSome (sym (step.others r apart)) some)
        by (inl same) (inl (inl idle)) = inl (there same (subst IsSome (sym (step.at.same idle)) (here same)))
        by (inl same) (inl (inr none)) = inl (there same (subst IsSome (sym (step.at.none none)) (here same)))
        by (inl same) (inr (inl link)) = inr (same, link)
        by (inl same) (inr (inr filed)) = inl (there same (filed_there filed))

-- ---- all paths
module _ (index tree : IndexMap) where
  abbrev Link : Those
  Link d = IsLinked (get index d) (get tree d)

  abbrev Obstacle : List ℕ → Those
  Obstacle q = GivesWay (get index q) (get tree q) q

  -- of these folders, those that the paths so far take the place of are gone, and their links are made
  abbrev pub So : Those → (List ℕ → Bool) → Those
  So A done d = (Link d × (done d ≡ true)) ⊎ (A d × ((q : List ℕ) → done q ≡ true → Obstacle q d → ⊥))

  -- two entries of a tree are no folder of each other
  pub apart : IsIndex tree → (k d : List ℕ) → Link d → Obstacle k d → ⊥
  apart is k d (entry, at_d, differs, commit) (other, at_k, differs_k, (file, at)) = by at
    where
      by : IsAtOrIn k d → ⊥
      by (inl same) = file (subst (λ (e : IndexEntry). e.mode ≡ modes.Commit) (one entry other (sym at_d ∙ ap (get tree) same ∙ at_k)) commit)
        where
          one : (x y : IndexEntry) → Some x ≡ Some y → x ≡ y
          one x y e = cc e
      by (inr above) = is.apart k d (subst IsSome (sym at_k) refl) (subst IsSome (sym at_d) refl) above

  module _ (is : IsIndex tree) (A : Those) (done : List ℕ → Bool) (mid now : FileMap) (held new : Folders) (k : List ℕ) where
    abbrev More : List ℕ → Bool
    More q = is_same q k || done q

    pub so_more : ((r : List ℕ) → IsSome (get mid r) → IsSome (get now r) ⊎ ((r ≡ k) × Link k)) → (Filed (get index k) (get tree k) k → IsSome (get now k)) → Filed (get index k) (get tree k) k ⊎ (Filed (get index k) (get tree k) k → ⊥)
        → AreFolders mid held (So A done) → AreFolders now new (λ d. ((d ≡ k) × Link k) ⊎ (IsFolder mid held d × (Obstacle k d → ⊥))) → AreFolders now new (So A More)
    so_more lost file filed first second = record { exact = λ d. (λ f. there d ((second.exact d).0 f), λ f. (second.exact d).1 (back d f)) }
      where
        more_done : (q : List ℕ) → done q ≡ true → More q ≡ true
        more_done q e = ap (λ b. is_same q k || b) e ∙ or-true (is_same q k)

        here : More k ≡ true
        here = ap (λ b. b || done k) (is_eq-same k)

        no_more : (d : List ℕ) → ((q : List ℕ) → done q ≡ true → Obstacle q d → ⊥) → (Obstacle k d → ⊥) → (q : List ℕ) → Obstacle q d → (q ≡ k) ⊎ (done q ≡ true) → ⊥
        no_more d before last q way (inl same) = last (subst (λ (p : List ℕ). Obstacle p d) same way)
        no_more d before last q way (inr e) = before q e way

        kept : (d : List ℕ) → A d → ((q : List ℕ) → done q ≡ true → Obstacle q d → ⊥) → (Obstacle k d → ⊥) → IsFolderBy now (So A More) d
        kept d a before last = folder_itself now (So A More) d (inr (a, λ q e way. no_more d before last q way (same_or_before q k (done q) e)))

        linked : Link k → IsFolderBy now (So A More) k
        linked link = folder_itself now (So A More) k (inl (link, here))

        -- a folder in which one lies whose place is taken
        taken : (one two : List ℕ) → (Obstacle k one → ⊥) → A two → ((q : List ℕ) → done q ≡ true → Obstacle q two → ⊥) → IsAtOrIn one two → Filed (get index k) (get tree k) k → IsAtOrIn k two ⊎ (IsAtOrIn k two → ⊥) → IsFolderBy now (So A More) one
        taken one two free a before at f (inr out) = folder_above now (So A More) one two at (kept two a before (λ way. out way.3.1))
        taken one two free a before at f (inl in_k) = by (in_either one k two at in_k)
          where
            by : IsAbove one k ⊎ IsAtOrIn k one → IsFolderBy now (So A More) one
            by (inl above) = inl (k, above, file f)
            by (inr at_k) = absurd (free (filed_way (get index k) (get tree k) k f one at_k))

        lost_in : (one r : List ℕ) → IsAbove one r → IsSome (get now r) ⊎ ((r ≡ k) × Link k) → IsFolderBy now (So A More) one
        lost_in one r above (inl still) = inl (r, above, still)
        lost_in one r above (inr (same, link)) = folder_above now (So A More) one k (inr (subst (IsAbove one) same above)) (linked link)

        stays : (one : List ℕ) → (Obstacle k one → ⊥) → IsFolderBy mid (So A done) one → IsFolderBy now (So A More) one
        stays one free (inl (r, above, some)) = lost_in one r above (lost r some)
        stays one free (inr (two, inl link, at)) = folder_above now (So A More) one two at (folder_itself now (So A More) two (inl (link.0, more_done two link.1)))
        stays one free (inr (two, inr a, at)) = by filed
          where
            by : Filed (get index k) (get tree k) k ⊎ (Filed (get index k) (get tree k) k → ⊥) → IsFolderBy now (So A More) one
            by (inl f) = taken one two free a.0 a.1 at f (in_or_not k two)
            by (inr none) = folder_above now (So A More) one two at (kept two a.0 a.1 (λ way. none (way_filed (get index k) (get tree k) k two way)))

        there : (d : List ℕ) → IsFolderBy now (λ d. ((d ≡ k) × Link k) ⊎ (IsFolder mid held d × (Obstacle k d → ⊥))) d → IsFolderBy now (So A More) d
        there d (inl f) = inl f
        there d (inr (one, inl (same, link), at)) = folder_above now (So A More) d one at (subst (IsFolderBy now (So A More)) (sym same) (linked link))
        there d (inr (one, inr (f, free), at)) = folder_above now (So A More) d one at (stays one free ((first.exact one).0 f))

        one_back : (one : List ℕ) → So A More one → ((one ≡ k) × Link k) ⊎ (IsFolder mid held one × (Obstacle k one → ⊥))
        one_back one (inl (link, e)) = by (same_or_before one k (done one) e)
          where
            by : (one ≡ k) ⊎ (done one ≡ true) → ((one ≡ k) × Link k) ⊎ (IsFolder mid held one × (Obstacle k one → ⊥))
            by (inl same) = inl (same, subst Link same link)
            by (inr before) = inr (is_folder mid held (So A done) one first (inl (link, before)), λ way. apart is k one link way)
        one_back one (inr (a, never)) = inr (is_folder mid held (So A done) one first (inr (a, λ q e way. never q (more_done q e) way)), λ way. never k here way)

        back : (d : List ℕ) → IsFolderBy now (So A More) d → IsFolderBy now (λ d. ((d ≡ k) × Link k) ⊎ (IsFolder mid held d × (Obstacle k d → ⊥))) d
        back d (inl f) = inl f
        back d (inr (one, s, at)) = inr (one, one_back one s, at)

  abbrev pub Left : FileMap → Folders → Those
  Left old was d = IsFolder old was d × (IsLeftBy index tree d → ⊥)

  -- whatever the folders were before
  pub record Making (begin : FileMap) (begun : Folders) (work : FileMap) (held : Folders) (rest : List (List ℕ)) : Type 0 where
    pub done : List ℕ → Bool
    pub covers : (q : List ℕ) → is_listed q rest ≡ false → done q ≡ true
    pub folders : (old : FileMap) (was : Folders) → AreFolders begin begun (Left old was) → AreFolders work held (So (Left old was) done)

  pub making_start : (work : FileMap) (held : Folders) (rest : List (List ℕ)) → ((q : List ℕ) → is_listed q rest ≡ false → get tree q ≡ None) → Making work held work held rest
  making_start work held rest free = record {
    done = λ q. not (is_listed q rest);
    covers = λ q lacks. ap not lacks;
    folders = λ old was are. are_same work held (Left old was) (So (Left old was) (λ q. not (is_listed q rest))) are
        (λ d is. inr (is, λ q out way. no_none (get index q) (get tree q) q way.0 (free q (unnot (is_listed q rest) out)) way.1)) (back old was);
  }
    where
      back : (old : FileMap) (was : Folders) (d : List ℕ) → So (Left old was) (λ q. not (is_listed q rest)) d → Left old was d
      back old was d (inl (link, out)) = absurd (no_none (get index d) (get tree d) d link.0 (free d (unnot (is_listed d rest) out)) link.1)
      back old was d (inr is) = is.0

  pub making_more : (begin : FileMap) (begun : Folders) (mid now : FileMap) (held new : Folders) (before rest : List (List ℕ)) (k : List ℕ) → IsIndex tree → before ≡ k ∷ rest
      → ((r : List ℕ) → IsSome (get mid r) → IsSome (get now r) ⊎ ((r ≡ k) × Link k)) → (Filed (get index k) (get tree k) k → IsSome (get now k)) → Filed (get index k) (get tree k) k ⊎ (Filed (get index k) (get tree k) k → ⊥)
      → AreFolders now new (λ d. ((d ≡ k) × Link k) ⊎ (IsFolder mid held d × (Obstacle k d → ⊥))) → Making begin begun mid held before → Making begin begun now new rest
  making_more begin begun mid now held new before rest k is first lost file filed step so = record {
    done = λ q. is_same q k || so.done q;
    covers = covered so.done before rest k first so.covers;
    folders = λ old was are. so_more is (Left old was) so.done mid now held new k lost file filed (so.folders old was are) step;
  }

  pub making_ends : (begin : FileMap) (begun : Folders) (work : FileMap) (held : Folders) (rest : List (List ℕ)) → rest ≡ [] → Making begin begun work held rest → (old : FileMap) (was : Folders) → AreFolders begin begun (Left old was) → AreFolders work held (IsFolderAfter index tree (IsFolder old was))
  making_ends begin begun work held rest none so old was are = are_same work held (So (Left old was) so.done) (IsFolderAfter index tree (IsFolder old was)) (so.folders old was are) there back
    where
      all : (q : List ℕ) → so.done q ≡ true
      all q = so.covers q (ap (is_listed q) none)

      there : (d : List ℕ) → So (Left old was) so.done d → IsFolderAfter index tree (IsFolder old was) d
      there d (inl link) = inl link.0
      there d (inr is) = inr (is.0.0, is.0.1, λ way. is.1 way.0 (all way.0) way.1)

      back : (d : List ℕ) → IsFolderAfter index tree (IsFolder old was) d → So (Left old was) so.done d
      back d (inl link) = inl (link, all d)
      back d (inr is) = inr ((is.0, is.1), λ q e way. is.2 (q, way))

  pub not_filed : (k : List ℕ) → ((get index k ≡ get tree k) ⊎ (get tree k ≡ None)) ⊎ (IsLinked (get index k) (get tree k) ⊎ Filed (get index k) (get tree k) k) → Filed (get index k) (get tree k) k ⊎ (Filed (get index k) (get tree k) k → ⊥)
  not_filed k (inl idle) = inr (λ f. no_way (get index k) (get tree k) k idle k (filed_way (get index k) (get tree k) k f k (inl refl)))
  not_filed k (inr (inl (entry, is, differs, commit))) = inr (λ f. f.3 (subst (λ (e : IndexEntry). e.mode ≡ modes.Commit) (one entry f.0 (sym is ∙ f.1)) commit))
    where
      one : (x y : IndexEntry) → Some x ≡ Some y → x ≡ y
      one x y e = cc e
  not_filed k (inr (inr f)) = inl f

  -- between what was and what is made
  pub making_between : (begin : Those) (mid now : FileMap) (held new : Folders) (k : List ℕ) → AreBetween mid held (λ d. begin d × (GivesWayBy index tree d → ⊥)) (λ d. begin d ⊎ IsMadeBy index tree d)
      → AreBetween now new (λ d. IsFolder mid held d × (Obstacle k d → ⊥)) (λ d. IsFolder mid held d ⊎ IsMadeFor (get index k) (get tree k) k d) → AreBetween now new (λ d. begin d × (GivesWayBy index tree d → ⊥)) (λ d. begin d ⊎ IsMadeBy index tree d)
  making_between begin mid now held new k first second = record {
    least = λ d is. second.least d (first.least d is, λ way. is.1 (k, way));
    most = λ d f. by d (second.most d f);
  }
    where
      by : (d : List ℕ) → IsFolder mid held d ⊎ IsMadeFor (get index k) (get tree k) k d → begin d ⊎ IsMadeBy index tree d
      by d (inl f) = first.most d f
      by d (inr made) = inr (k, made)

  -- both phases
  pub both_between : (old mid now : FileMap) (was held new : Folders) → AreBetween mid held (λ d. IsFolder old was d × (IsLeftBy index tree d → ⊥)) (IsFolder old was)
      → AreBetween now new (λ d. IsFolder mid held d × (GivesWayBy index tree d → ⊥)) (λ d. IsFolder mid held d ⊎ IsMadeBy index tree d) → AreBetween now new (Stays index tree (IsFolder old was)) (λ d. IsFolder old was d ⊎ IsMadeBy index tree d)
  both_between old mid now was held new first second = record {
    least = λ d is. second.least d (first.least d (is.0, is.1), is.2);
    most = λ d f. by d (second.most d f);
  }
    where
      by : (d : List ℕ) → IsFolder mid held d ⊎ IsMadeBy index tree d → IsFolder old was d ⊎ IsMadeBy index tree d
      by d (inl f) = inl (first.most d f)
      by d (inr made) = inr made

  pub first_between : (old now : FileMap) (was new : Folders) → AreBetween now new (λ d. IsFolder old was d × (IsLeftBy index tree d → ⊥)) (IsFolder old was) → AreBetween now new (Stays index tree (IsFolder old was)) (λ d. IsFolder old was d ⊎ IsMadeBy index tree d)
  first_between old now was new are = record { least = λ d is. are.least d (is.0, is.1); most = λ d f. inl (are.most d f) }

  -- nothing is written yet
  pub making_begins : (work : FileMap) (held : Folders) → AreBetween work held (λ d. IsFolder work held d × (GivesWayBy index tree d → ⊥)) (λ d. IsFolder work held d ⊎ IsMadeBy index tree d)
  making_begins work held = record { least = λ d is. is.0; most = λ d f. inl f }
