-- For files that are put into the index at once: the machine's commands one after the other, and what is shown behind them.
use Rattle.std.proofs.Common.{◌≡◌, ◌≢◌, inl, inr, ℕ, suc, Bool, true, false, cond, arith, List, ◌∷◌, map, length, get_or, drop, ◌<◌, ◌+◌, ◌==◌, Ok, Err, Option, Some, None, refl, sym, ap, ◌∙◌, subst, []}
use Rattle.std.specs.Prelude.{option_map, unwrap_or, bytes_eq, IsSome, not, Result, IsErrAnd}
use Rattle.std.specs.FinMap.{get, insert}
use Rattle.std.specs.List.{All, AllByRecursion}
use Rattle.std.proofs.lemmas.List.{drop_more}
use Rattle.std.proofs.lemmas.Slice.Eq.{bytes_eq-Decides}
use Rattle.vc_rules.proofs.SoundLemmas.{name_valid}
use Rattle.vc_files.specs.FileMap.{FileMap}
use Rattle.vc_files.specs.declared.faults.Fault.TheVariants as device
use Rattle.vc_format.specs.Git.{git_name}
use Rattle.vc_index.specs.IndexFault.{IsOfAdd}
use Rattle.vc_index.specs.IndexMap.{IndexMap, HasConflict, index_entry}
use Rattle.vc_index.specs.IndexText.{index_text}
use Rattle.vc_index.specs.Path.{IsPath}
use Rattle.vc_index.specs.declared.entry.IndexEntry.{IndexEntry}
use Rattle.vc_index.specs.declared.faults.IndexFault.{IndexFault}
use Rattle.vc_index.specs.declared.faults.IndexFault.TheVariants as index
use Rattle.vc_index.proofs.MapLemmas.{insert-IsIndex}
use Rattle.vc_model.specs.Object.{Object, Objects, Id, blob}
use Rattle.vc_model.specs.Repository.{Repository, with_objects}
use Rattle.vc_model.specs.Node.Answer.{Did, Declined}
use Rattle.vc_model.specs.Node.Reply.{Stored}
use Rattle.vc_model.specs.Clone.{Awaited, CloneNode, with_object as added}
use Rattle.vc_model.specs.CloneCall.{Refuses}
use Rattle.vc_model.specs.CloneCall.CloneAnswers.{down, refused, obeyed, faulted}
use Rattle.vc_object.specs.Object.{IsObject, object_name}
use Rattle.vc_object.specs.declared.id.ObjectId.{ObjectId}
use Rattle.vc_object.specs.declared.kind.Kind.TheVariants.{Blob}
use Rattle.vc_object.specs.declared.mode.Mode.{Mode}
use Rattle.vc_object.specs.declared.mode.Mode.TheVariants.{Tree}
use Rattle.vc_rules.specs.Git.{git, stored_of}
use Rattle.vc_values.proofs.GitLaws.{git_rules}
use Rattle.vc_rules.proofs.MapLemmas.{get-put}
use Rattle.vc_object_map.specs.declared.faults.StoreFault.TheVariants as store
use Rattle.vc_local.specs.IndexFile.{SpellsIndex, BlamesIndex}
use Rattle.vc_local.specs.Machine.{HoldsNode, Spells, fault_answer, failure_of, live_of}
use Rattle.vc_local.specs.NodeFault.{IsOfDevice, TellsDevice, of_index, takes_down}
use Rattle.vc_local.specs.Reads.{NoneRead, TellsRead}
use Rattle.vc_local.specs.Shown.{Shown, shown, with_index_shown}
use Rattle.vc_local.specs.Staging.{AnswersStage, AreOf, AreStaged, BlamesStaging, FailsAtFirst, File, MayStandAll, RefusesFirst, RefusesOne, StagesAll, StagesShown, file_placed, placed, staging, with_all}
use Rattle.vc_local.specs.declared.fault.NodeFault.{NodeFault}
use Rattle.vc_local.specs.declared.fault.NodeFault.TheVariants.{Store, Ref, Missing, NotACommit, BadPath, PathConflict, BadIndex, WrongEntry, Down}
use Rattle.vc_local.specs.declared.staging.Staged.{Staged}
use Rattle.vc_local.proofs.IndexLemmas.{IsMachineIndex, free_path, machine_index_put, no_bad_index, not_free_path, spells_index, staged_deed, staged_index}
use Rattle.vc_local.proofs.WriteLemmas.{added_all}

-- ---- the machine's commands

-- the repository with one file staged
abbrev pub repository_with : Repository → File → Repository
repository_with r f = record (with_objects r (added r.objects (git_name (blob f.body)) (blob f.body))) { index = staged_index r f.path f.mode f.body }

-- the node with one, and with all of them
abbrev pub node_with : Awaited → CloneNode → File → CloneNode
node_with awaited n f = record { repository = repository_with n.repository f; live = Some awaited }

abbrev pub node_with_all : Awaited → CloneNode → List File → CloneNode
node_with_all awaited n [] = n
node_with_all awaited n (f ∷ fs) = node_with_all awaited (node_with awaited n f) fs

-- each body is one of a blob
abbrev pub AreBlobs : List File → Type 0
AreBlobs = AllByRecursion (λ (f : File). IsObject Blob f.body)

module _ (awaited : Awaited) where
  pub stages_one : (n : CloneNode) (m : IndexMap) (f : File) → n.live ≡ Some awaited → IsMachineIndex n.repository.index m → IsPath f.path → ¬ HasConflict m f.path → IsObject Blob f.body
      → AnswersStage n f (Did Stored) (node_with awaited n f)
  stages_one n m f live rel legal free object =
      let s = n.repository.objects in
      let k = git_name (blob f.body) in
      obeyed awaited (staged_deed awaited n.repository f.path f.mode f.body) live (legal, free_path n.repository.index m f.path rel free, object, refl)
      ((added s k (blob f.body), added_all s k (blob f.body), refl), refl, refl) refl

  -- files that may stand in the index one after the other are staged so
  pub stages_all : (files : List File) (n : CloneNode) (m : IndexMap) → n.live ≡ Some awaited → IsMachineIndex n.repository.index m → AreBlobs files → MayStandAll m (map file_placed files)
      → StagesAll files n (node_with_all awaited n files)
  stages_all [] n m live rel blobs may = refl
  stages_all (f ∷ fs) n m live rel blobs may =
      let v = index_entry f.mode (object_name Blob f.body) in (
        node_with awaited n f,
        stages_one n m f live rel may.0 may.1 blobs.0,
        stages_all fs (node_with awaited n f) (insert m f.path v) refl (machine_index_put n.repository.index m f.path rel v) blobs.1 may.2,
      )

  -- the first that may not is refused
  module _ (fault : IndexFault) (number : ℕ) (refuses : (r : Repository) (m : IndexMap) (f : File) → IsMachineIndex r.index m → IsOfAdd m f.path fault → Refuses git git_rules r (staging f) number) where
    pub refuses_first : (files : List File) (n : CloneNode) (m : IndexMap) → n.live ≡ Some awaited → IsMachineIndex n.repository.index m → AreBlobs files → RefusesFirst m (map file_placed files) fault
        → RefusesOne files n number
    refuses_first [] n m live rel blobs first = absurd first
    refuses_first (f ∷ fs) n m live rel blobs (inl of) = inl (refused awaited number live (refuses n.repository m f rel of) refl refl refl)
    refuses_first (f ∷ fs) n m live rel blobs (inr rest) =
        let v = index_entry f.mode (object_name Blob f.body) in
        inr (
          node_with awaited n f,
          stages_one n m f live rel rest.0 rest.1 blobs.0,
          refuses_first fs (node_with awaited n f) (insert m f.path v) refl (machine_index_put n.repository.index m f.path rel v) blobs.1 rest.2,
        )

  all_live : (files : List File) (n : CloneNode) → n.live ≡ Some awaited → (node_with_all awaited n files).live ≡ Some awaited
  all_live [] n live = live
  all_live (f ∷ fs) n live = all_live fs (node_with awaited n f) refl

bad_path : (r : Repository) (m : IndexMap) (f : File) → IsMachineIndex r.index m → IsOfAdd m f.path index.BadPath → Refuses git git_rules r (staging f) 60
bad_path r m f rel of = inl (of, refl)

conflict : (r : Repository) (m : IndexMap) (f : File) → IsMachineIndex r.index m → IsOfAdd m f.path index.PathConflict → Refuses git git_rules r (staging f) 61
conflict r m f rel of = inr (of.0, inl (not_free_path r.index m f.path rel of.1, refl))

-- ---- what is shown

-- an object that is there stays, and so do all
added_there : (s : Objects) (k : Id) (o : Object) → IsSome (get s k) → (x : Id) → get (added s k o) x ≡ get s x
added_there s k o there x =
    get-put s k x (unwrap_or (get s k) o) ∙ by (bytes_eq x k) refl
  where
    found : (f : Option Object) → IsSome f → Some (unwrap_or f o) ≡ f
    found None h = absurd (cc h)
    found (Some p) h = refl

    by : (b : Bool) → bytes_eq x k ≡ b → cond b (Some (unwrap_or (get s k) o)) (get s x) ≡ get s x
    by true e = found (get s k) there ∙ ap (get s) (sym ((bytes_eq-Decides x k).0 e))
    by false e = refl

-- an object of each name is there
abbrev AreThere : Objects → List File → Type 0
AreThere s = AllByRecursion (λ (f : File). IsSome (get s (git_name (blob f.body))))

still_there : (s t : Objects) (files : List File) → ((x : Id) → get t x ≡ get s x) → AreThere s files → AreThere t files
still_there s t [] same there = tt
still_there s t (f ∷ fs) same there = (subst (λ (found : Option Object). IsSome found) (sym (same (git_name (blob f.body)))) there.0, still_there s t fs same there.1)

-- none is a folder
abbrev AreNoTrees : List File → Type 0
AreNoTrees = AllByRecursion (λ (f : File). f.mode ≢ Tree)

-- with one file more in the index, whose object is there
abbrev spells_with : (s : Shown) (r : Repository) (f : File) (p : Spells s r) → f.mode ≢ Tree → IsPath f.path → ¬ HasConflict p.map f.path → IsSome (get r.objects (git_name (blob f.body)))
    → Spells (with_index_shown s (index_text (insert p.map f.path (index_entry f.mode (object_name Blob f.body))))) (repository_with r f)
spells_with s r f p file legal free there =
    let v = index_entry f.mode (object_name Blob f.body) in record {
      objects = λ x. p.objects x ∙ ap (option_map stored_of) (sym (added_there r.objects (git_name (blob f.body)) (blob f.body) there x));
      refs = p.refs;
      head = p.head;
      head_shown = p.head_shown;
      head_is = p.head_is;
      map = insert p.map f.path v;
      map_sound = insert-IsIndex p.map f.path v p.map_sound (record { legal = legal; mode = file; id = name_valid Blob f.body }) free;
      map_shown = refl;
      index = machine_index_put r.index p.map f.path p.index v;
    }

spells_with_all : (awaited : Awaited) (files : List File) (s : Shown) (n : CloneNode) (p : Spells s n.repository) → AreNoTrees files → AreThere n.repository.objects files → MayStandAll p.map (map file_placed files)
    → Spells (with_index_shown s (index_text (with_all p.map (map file_placed files)))) (node_with_all awaited n files).repository
spells_with_all awaited [] s n p no_trees there may = record {
  objects = p.objects;
  refs = p.refs;
  head = p.head;
  head_shown = p.head_shown;
  head_is = p.head_is;
  map = p.map;
  map_sound = p.map_sound;
  map_shown = refl;
  index = p.index;
}
spells_with_all awaited (f ∷ fs) s n p no_trees there may =
    let s2 = n.repository.objects in
    let k = git_name (blob f.body) in
    spells_with_all awaited fs (with_index_shown s (index_text (insert p.map f.path (index_entry f.mode (object_name Blob f.body))))) (node_with awaited n f)
    (spells_with s n.repository f p no_trees.0 may.0 may.1 there.0) no_trees.1
    (still_there s2 (added s2 k (blob f.body)) fs (added_there s2 k (blob f.body) there.0) there.1) may.2

-- ---- what is to be staged, as files of the machine

same_place : (p q : List ℕ) (a b : Mode) (x y : ObjectId) → p ≡ q → a ≡ b → x ≡ y → ◌≡◌ {A = List ℕ × IndexEntry} (p, index_entry a x) (q, index_entry b y)
same_place p q a b x y path mode name i = (path i, record { mode = mode i; id = name i })

placed_same : (s : Objects) (staged : List Staged) (files : List File) → AreOf s staged files → map placed staged ≡ map file_placed files
placed_same s [] [] are = refl
placed_same s [] (f ∷ fs) are = absurd are
placed_same s (t ∷ ts) [] are = absurd are
placed_same s (t ∷ ts) (f ∷ fs) are =
    ap (λ (e : List ℕ × IndexEntry). e ∷ map placed ts) (same_place t.path.items f.path t.mode f.mode t.id (object_name Blob f.body) are.0.path are.0.mode are.0.name)
    ∙ ap (λ (es : List (List ℕ × IndexEntry)). file_placed f ∷ es) (placed_same s ts fs are.1)

blobs_of : (s : Objects) (staged : List Staged) (files : List File) → AreOf s staged files → AreBlobs files
blobs_of s [] [] are = tt
blobs_of s [] (f ∷ fs) are = absurd are
blobs_of s (t ∷ ts) [] are = absurd are
blobs_of s (t ∷ ts) (f ∷ fs) are = (are.0.legal, blobs_of s ts fs are.1)

there_of : (s : Objects) (staged : List Staged) (files : List File) → AreOf s staged files → AreThere s files
there_of s [] [] are = tt
there_of s [] (f ∷ fs) are = absurd are
there_of s (t ∷ ts) [] are = absurd are
there_of s (t ∷ ts) (f ∷ fs) are = (subst (λ (id : ObjectId). IsSome (get s id.0)) are.0.name are.0.stored, there_of s ts fs are.1)

abbrev IsNoTree : Staged → Type 0
IsNoTree t = t.mode ≢ Tree

no_trees_of : (s : Objects) (staged : List Staged) (files : List File) → AreOf s staged files → All IsNoTree staged → AreNoTrees files
no_trees_of s [] [] are each = tt
no_trees_of s [] (f ∷ fs) are each = absurd are
no_trees_of s (t ∷ ts) [] are each = absurd are
no_trees_of s (t ∷ ts) (f ∷ fs) are each =
    let first : t.mode ≢ Tree = each 0 t (omega arith) in
    let rest : All IsNoTree ts = λ k d lt. each (suc k) d (omega (arith, lt)) in
    (λ e. first (are.0.mode ∙ e), no_trees_of s ts fs are.1 rest)

-- ---- the answers of a call

pub staging_down : (staged : List Staged) (was : Bool) (s : Shown) → was ≡ false → StagesShown staged (Declined 112) was was s s
staging_down staged was s e = record { each = λ awaited n files shows are. (n, shows, (by files n (shows.live ∙ ap (λ (up : Bool). live_of up awaited) e), refl)) }
  where
    by : (files : List File) (n : CloneNode) → n.live ≡ None → RefusesOne files n 112
    by [] n none = (none, refl)
    by (f ∷ fs) n none = inl (down none (λ h. cc h) refl refl refl)

pub staging_done : (content : FileMap) (staged : List Staged) (was is : Bool) (new : FileMap) → All IsNoTree staged
    → ((m : IndexMap) → SpellsIndex content m → AreStaged content m (map placed staged) new) → was ≡ true → is ≡ true → StagesShown staged (Did Stored) was is (shown content) (shown new)
staging_done content staged was is new no_trees does up after = record {
  each = λ awaited n files shows are.
      let p = shows.spells in
      let s = n.repository.objects in
      let spelled = spells_index content n.repository p in
      let same : map placed staged ≡ map file_placed files = placed_same s staged files are in
      let live : n.live ≡ Some awaited = shows.live ∙ ap (λ (u : Bool). live_of u awaited) up in
      let done = does p.map spelled in
      let stand : MayStandAll p.map (map file_placed files) = subst (λ (es : List (List ℕ × IndexEntry)). MayStandAll p.map es) same done.may in
      let is_new : with_index_shown (shown content) (index_text (with_all p.map (map file_placed files))) ≡ shown new =
      sym (done.is ∙ ap (λ (es : List (List ℕ × IndexEntry)). with_index_shown (shown content) (index_text (with_all p.map es))) same) in (
        node_with_all awaited n files,
        record {
          spells = subst (λ (x : Shown). Spells x (node_with_all awaited n files).repository) is_new
              (spells_with_all awaited files (shown content) n p (no_trees_of s staged files are no_trees) (there_of s staged files are) stand);
          live = all_live awaited files n live ∙ ap (λ (u : Bool). live_of u awaited) (sym after);
        },
        (refl, stages_all awaited files n p.map live p.index (blobs_of s staged files are) stand),
      );
}

-- where the first of the files that may not stand there is known
pub staging_refused : (content : FileMap) (staged : List Staged) (was is : Bool) (fault : IndexFault) (number : ℕ)
    → ((r : Repository) (m : IndexMap) (f : File) → IsMachineIndex r.index m → IsOfAdd m f.path fault → Refuses git git_rules r (staging f) number)
    → ((m : IndexMap) → SpellsIndex content m → RefusesFirst m (map placed staged) fault) → was ≡ true → is ≡ true → StagesShown staged (Declined number) was is (shown content) (shown content)
staging_refused content staged was is fault number refuses first up after = record {
  each = λ awaited n files shows are.
      let p = shows.spells in
      let live : n.live ≡ Some awaited = shows.live ∙ ap (λ (u : Bool). live_of u awaited) up in
      let same : map placed staged ≡ map file_placed files = placed_same n.repository.objects staged files are in (
        n,
        record { spells = p; live = live ∙ ap (λ (u : Bool). live_of u awaited) (sym after) },
        (
          refuses_first awaited fault number refuses files n p.map live p.index (blobs_of n.repository.objects staged files are)
              (subst (λ (es : List (List ℕ × IndexEntry)). RefusesFirst p.map es fault) same (first p.map (spells_index content n.repository p))),
          refl,
        ),
      );
}

module _ (content : FileMap) (staged : List Staged) (was is : Bool) (up : was ≡ true) where
  abbrev Blamed : NodeFault → Type 0
  Blamed e = (m : IndexMap) → SpellsIndex content m → BlamesStaging m (map placed staged) e

  -- no node is shown where that comes
  never : (a : _) → ((m : IndexMap) → SpellsIndex content m → ⊥) → StagesShown staged a was is (shown content) (shown content)
  never a none = record { each = λ awaited n files shows are. absurd (none shows.spells.map (spells_index content n.repository shows.spells)) }

  failed_first : (s : Objects) (some : List Staged) (files : List File) (awaited : Awaited) (n : CloneNode) (x : _) → AreOf s some files → map placed some ≢ [] → n.live ≡ Some awaited
      → FailsAtFirst files n (fault_answer (Store (store.Fault x))) (record { repository = n.repository; live = None })
  failed_first s [] [] awaited n x are more live = absurd (more refl)
  failed_first s [] (f ∷ fs) awaited n x are more live = absurd are
  failed_first s (t ∷ ts) [] awaited n x are more live = absurd are
  failed_first s (t ∷ ts) (f ∷ fs) awaited n x are more live = (faulted awaited (failure_of x) live (λ h. cc h) refl refl refl, refl)

  staging_fails : (e : NodeFault) → Blamed e → is ≡ not (takes_down e) → StagesShown staged (fault_answer e) was is (shown content) (shown content)
  staging_fails BadPath blames after = staging_refused content staged was is index.BadPath 60 bad_path blames up after
  staging_fails PathConflict blames after = staging_refused content staged was is index.PathConflict 61 conflict blames up after
  staging_fails (Store (store.Fault f)) blames after = record {
    each = λ awaited n files shows are. (
      record { repository = n.repository; live = None },
      record { spells = shows.spells; live = ap (λ (u : Bool). live_of u awaited) (sym after) },
      failed_first n.repository.objects staged files awaited n f are (blames shows.spells.map (spells_index content n.repository shows.spells)).1
          (shows.live ∙ ap (λ (u : Bool). live_of u awaited) up),
    );
  }
  staging_fails (Store (store.BadObject f)) blames after = never _ (λ m s. (blames m s).0)
  staging_fails (Store (store.Absent id)) blames after = never _ (λ m s. (blames m s).0)
  staging_fails (Store (store.Damaged id)) blames after = never _ (λ m s. (blames m s).0)
  staging_fails (Ref e) blames after = never _ blames
  staging_fails (Missing id) blames after = never _ blames
  staging_fails (NotACommit id) blames after = never _ blames
  staging_fails (BadIndex place) blames after = never _ blames
  staging_fails (WrongEntry at) blames after = never _ blames
  staging_fails Down blames after = never _ blames

  -- the same as a method gives it: the fault went through the call that takes the node down
  pub staging_failed : (e told : NodeFault) (new : FileMap) → told ≡ e → new ≡ content → Blamed e → is ≡ not (takes_down e) → StagesShown staged (fault_answer told) was is (shown content) (shown new)
  staging_failed e told new same stays blames after =
      subst (λ (x : FileMap). StagesShown staged (fault_answer told) was is (shown content) (shown x)) (sym stays)
      (subst (λ (x : NodeFault). StagesShown staged (fault_answer x) was is (shown content) (shown content)) (sym same) (staging_fails e blames after))

-- what may stand in the index of a node that was held, the machine stages
pub staging_may : (content : FileMap) (staged : List Staged) (was : Bool) → was ≡ true → (awaited : Awaited) (n : CloneNode) (files : List File) (holds : HoldsNode content was awaited n) → AreOf n.repository.objects staged files
    → MayStandAll holds.shows.spells.map (map placed staged) → (m : CloneNode) × StagesAll files n m
staging_may content staged was up awaited n files holds are may =
    let p = holds.shows.spells in
    let s = n.repository.objects in (
      node_with_all awaited n files,
      stages_all awaited files n p.map (holds.shows.live ∙ ap (λ (u : Bool). live_of u awaited) up) p.index (blobs_of s staged files are)
          (subst (λ (es : List (List ℕ × IndexEntry)). MayStandAll p.map es) (placed_same s staged files are) may),
    )

-- ---- why a call fails, by the index

-- of no file is it told that the index is wrong, and the like
none_first : {P : Type 0} (m : IndexMap) (es : List (List ℕ × IndexEntry)) (fault : IndexFault) → ((n : IndexMap) (path : List ℕ) → IsOfAdd n path fault → P) → RefusesFirst m es fault → P
none_first m [] fault told first = absurd first
none_first m (e ∷ es) fault told (inl of) = told m e.0 of
none_first m (e ∷ es) fault told (inr rest) = none_first (insert m e.0 e.1) es fault told rest.2

some_first : (m : IndexMap) (es : List (List ℕ × IndexEntry)) (fault : IndexFault) → RefusesFirst m es fault → es ≢ []
some_first m [] fault first e = first
some_first m (x ∷ es) fault first e = cc e

pub first_blamed : (m : IndexMap) (es : List (List ℕ × IndexEntry)) (fault : IndexFault) → RefusesFirst m es fault → BlamesStaging m es (of_index fault)
first_blamed m es index.BadPath first = first
first_blamed m es index.PathConflict first = first
first_blamed m es (index.BadIndex place) first = none_first m es (index.BadIndex place) (λ n path of. of) first
first_blamed m es (index.WrongEntry at) first = none_first m es (index.WrongEntry at) (λ n path of. of) first
first_blamed m es (index.Missing id) first = none_first m es (index.Missing id) (λ n path of. of) first
first_blamed m es (index.Store (store.BadObject f)) first = absurd (none_first m es (index.Store (store.BadObject f)) (λ n path of. cc of.1) first)
first_blamed m es (index.Store (store.Absent id)) first = absurd (none_first m es (index.Store (store.Absent id)) (λ n path of. cc of.1) first)
first_blamed m es (index.Store (store.Damaged id)) first = absurd (none_first m es (index.Store (store.Damaged id)) (λ n path of. cc of.1) first)
first_blamed m es (index.Store (store.Fault f)) first = (tt, some_first m es (index.Store (store.Fault f)) first)

-- where files spell an index, a look at it is refused by a fault alone
pub look_blamed : (content : FileMap) (m : IndexMap) (es : List (List ℕ × IndexEntry)) (e : NodeFault) → SpellsIndex content m → es ≢ [] → BlamesIndex content e → BlamesStaging m es e
look_blamed content m es (Store (store.BadObject f)) s some blames = absurd blames
look_blamed content m es (Store (store.Absent id)) s some blames = absurd blames
look_blamed content m es (Store (store.Damaged id)) s some blames = absurd blames
look_blamed content m es (Store (store.Fault f)) s some blames = (tt, some)
look_blamed content m es (BadIndex place) s some blames = absurd (no_bad_index content place blames m s)
look_blamed content m es (Ref f) s some blames = absurd blames
look_blamed content m es (Missing id) s some blames = absurd blames
look_blamed content m es (NotACommit id) s some blames = absurd blames
look_blamed content m es BadPath s some blames = absurd blames
look_blamed content m es PathConflict s some blames = absurd blames
look_blamed content m es (WrongEntry at) s some blames = absurd blames
look_blamed content m es Down s some blames = absurd blames

-- ---- the loop that puts them into the index

-- From one index and files to another index and the files that are left: what may be said of these may be said of those.
pub record Leads (m : IndexMap) (es : List (List ℕ × IndexEntry)) (n : IndexMap) (rest : List (List ℕ × IndexEntry)) : Type 0 where
  pub same : with_all m es ≡ with_all n rest
  pub may : MayStandAll n rest → MayStandAll m es
  pub first : (fault : IndexFault) → RefusesFirst n rest fault → RefusesFirst m es fault

-- what is left, at the next file
pub rest_at : (files : List Staged) (i : ℕ) (item : Staged) → i < length files → item ≡ get_or files i item → map placed (drop i files) ≡ placed item ∷ map placed (drop (i + 1) files)
rest_at files i item lt is = ap (map placed) (drop_more files i item lt) ∙ ap (λ (t : Staged). placed t ∷ map placed (drop (i + 1) files)) (sym is)

module _ (m n : IndexMap) (es rest more : List (List ℕ × IndexEntry)) (t : Staged) (path : List ℕ) (leads : Leads m es n rest) (here : rest ≡ placed t ∷ more) (named : path ≡ t.path.items) where
  at : IsPath path → IsPath t.path.items
  at = subst IsPath named

  free_at : ¬ HasConflict n path → ¬ HasConflict n t.path.items
  free_at free h = free (subst (λ (p : List ℕ). HasConflict n p) (sym named) h)

  pub leads_more : (after : IndexMap) → after ≡ insert n path (index_entry t.mode t.id) → IsPath path → ¬ HasConflict n path → Leads m es after more
  leads_more after put legal free =
      let v = index_entry t.mode t.id in
      let is : insert n t.path.items v ≡ after = sym (put ∙ ap (λ (p : List ℕ). insert n p v) named) in record {
        same = leads.same ∙ ap (with_all n) here ∙ ap (λ (i : IndexMap). with_all i more) is;
        may = λ h. leads.may (subst (λ (xs : List (List ℕ × IndexEntry)). MayStandAll n xs) (sym here) (at legal, free_at free, subst (λ (i : IndexMap). MayStandAll i more) (sym is) h));
        first = λ fault h. leads.first fault (subst (λ (xs : List (List ℕ × IndexEntry)). RefusesFirst n xs fault) (sym here)
            (inr (at legal, free_at free, subst (λ (i : IndexMap). RefusesFirst i more fault) (sym is) h)));
      }

  pub leads_stop : (fault : IndexFault) → IsOfAdd n path fault → RefusesFirst m es fault
  leads_stop fault of = leads.first fault (subst (λ (xs : List (List ℕ × IndexEntry)). RefusesFirst n xs fault) (sym here) (inl (subst (λ (p : List ℕ). IsOfAdd n p fault) named of)))

-- ---- how a call that stages ends

pub some_placed : (staged : List Staged) (b : Bool) → b ≡ (length staged == 0) → b ≡ false → map placed staged ≢ []
some_placed [] b is some e = let bad : true ≡ false = sym is ∙ some in cc
some_placed (t ∷ ts) b is some e = cc e

-- what may not stand in the index tells of no bad file, and of no fault of the device
pub blamed_reads : (m : IndexMap) (es : List (List ℕ × IndexEntry)) (e : NodeFault) → BlamesStaging m es e → TellsRead NoneRead NoneRead e
blamed_reads m es (Store (store.BadObject f)) blames = tt
blamed_reads m es (Store (store.Absent id)) blames = tt
blamed_reads m es (Store (store.Damaged id)) blames = absurd blames.0
blamed_reads m es (Store (store.Fault f)) blames = tt
blamed_reads m es (Ref e) blames = absurd blames
blamed_reads m es (Missing id) blames = tt
blamed_reads m es (NotACommit id) blames = tt
blamed_reads m es BadPath blames = tt
blamed_reads m es PathConflict blames = tt
blamed_reads m es (BadIndex place) blames = tt
blamed_reads m es (WrongEntry at) blames = tt
blamed_reads m es Down blames = tt

first_quiet : (m : IndexMap) (es : List (List ℕ × IndexEntry)) (fault : IndexFault) → RefusesFirst m es fault → IsOfDevice (of_index fault) → ⊥
first_quiet m es index.BadPath first told = absurd told
first_quiet m es index.PathConflict first told = absurd told
first_quiet m es (index.BadIndex place) first told = absurd told
first_quiet m es (index.WrongEntry at) first told = absurd told
first_quiet m es (index.Missing id) first told = absurd told
first_quiet m es (index.Store (store.BadObject f)) first told = absurd told
first_quiet m es (index.Store (store.Absent id)) first told = absurd told
first_quiet m es (index.Store (store.Damaged id)) first told = absurd told
first_quiet m es (index.Store (store.Fault device.Memory)) first told = absurd (cc told)
first_quiet m es (index.Store (store.Fault device.Device)) first told = none_first m es (index.Store (store.Fault device.Device)) (λ n path of. absurd (cc of.1)) first

pub told_quiet : {T : Type 0} (r : Result T NodeFault) (m : IndexMap) (es : List (List ℕ × IndexEntry)) (fault : IndexFault) → IsErrAnd r (λ e. e ≡ of_index fault) → RefusesFirst m es fault → TellsDevice r → ⊥
told_quiet (Ok x) m es fault is first told = absurd told
told_quiet (Err e) m es fault is first told = first_quiet m es fault first (subst IsOfDevice is told)
