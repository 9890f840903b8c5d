-- For `add`: the files that may be staged one behind the other, and the machine's commands by which they are.
use Rattle.std.proofs.Common.{arith, ◌≡◌, inl, inr, ℕ, zero, suc, ◌+◌, ◌<◌, length, take, drop, get_or, Bool, true, false, cond, List, [], ◌∷◌, ◌++◌, map, append_assoc, append-nil, Option, Some, None, Ok, refl, sym, ap, ◌∙◌, subst}
use Rattle.std.specs.Prelude.{IsSome, is_some, bytes_eq, codes, unwrap_or, String, string_bytes}
use Rattle.std.specs.FinMap.{get, insert, empty}
use Rattle.std.specs.Global.{Global}
use Rattle.std.specs.List.{AllByRecursion}
use Rattle.std.specs.Option.{option_or}
use Rattle.std.proofs.lemmas.List.{drop_more, map-append, take-append-drop, take_more}
use Rattle.std.proofs.lemmas.Slice.Eq.{bytes_eq-Decides}
use Rattle.vc_files.specs.FileMap.{FileMap, SameOutside}
use Rattle.vc_files.proofs.FileMapLemmas.{outside_same, outside_then}
use Rattle.vc_index.specs.IndexMap.{IndexMap, HasConflict}
use Rattle.vc_index.specs.Path.{IsPath}
use Rattle.vc_index.specs.declared.entry.IndexEntry.{IndexEntry}
use Rattle.vc_model.specs.Clone.{Awaited, CloneNode, only_object}
use Rattle.vc_model.specs.Clone.Task.{Write}
use Rattle.vc_model.specs.CloneCall.{CloneAnswers, Refuses}
use Rattle.vc_model.specs.CloneCall.CloneAnswers.{down, asked, refused, obeyed, pruned, opened, faulted}
use Rattle.vc_model.specs.CloneCall.CloneCall.{Command}
use Rattle.vc_model.specs.Node.{Deed, Reply}
use Rattle.vc_model.specs.Node.Answer.{Did}
use Rattle.vc_model.specs.Node.Reply.{Made}
use Rattle.vc_model.specs.Object.{Id, Object as MachineObject, Objects, blob}
use Rattle.vc_model.specs.Repository.{Repository, AllAdded, Change, changed_all, with_objects}
use Rattle.vc_object.proofs.OneFault.{no_body_fault}
use Rattle.vc_object.specs.Decoding.{stored_object}
use Rattle.vc_object.specs.Object.{IsObject, object_name}
use Rattle.vc_object.specs.ObjectMap.{ObjectMap}
use Rattle.vc_object.specs.ObjectFault.{BodyFault}
use Rattle.vc_object.specs.declared.fault.ObjectFault.{ObjectFault}
use Rattle.vc_object.specs.declared.mode.Mode.{Mode}
use Rattle.vc_object.specs.declared.id.ObjectId.{ObjectId}
use Rattle.vc_object.specs.declared.kind.Kind.TheVariants.{Blob}
use Rattle.vc_values.specs.Faults.{object_number}
use Rattle.vc_rules.specs.Git.{git}
use Rattle.vc_values.proofs.GitLaws.{git_rules}
use Rattle.vc_rules.proofs.MapLemmas.{get-put}
use Rattle.vc_object_map.specs.Store.{objects, with_object as store_object, with_objects as store_objects}
use Rattle.vc_object_map.specs.declared.faults.StoreFault.TheVariants as store
use Rattle.vc_local.specs.Blames.{BlamesWrite}
use Rattle.vc_local.specs.Clean.{StoresOnly}
use Rattle.vc_local.specs.Machine.{AnswersShown}
use Rattle.vc_local.specs.Reads.{NoneRead, TellsRead}
use Rattle.vc_local.specs.Shown.{Shown, shown}
use Rattle.vc_local.specs.Staging.{AreOf, File, MayStandAll, RefusesOne, file_placed, staging}
use Rattle.vc_local.specs.declared.fault.NodeFault.{NodeFault}
use Rattle.vc_local.specs.declared.fault.NodeFault.TheVariants as node
use Rattle.vc_local.specs.declared.staging.Staged.{Staged}
use Rattle.vc_local.proofs.CleanLemmas.{clean_same, clean_then}
use Rattle.vc_local.proofs.IndexLemmas.{IsMachineIndex, free_path, machine_index_put, not_free_path}
use Rattle.vc_local.proofs.StagingLemmas.{node_with, stages_one}
use Rattle.vc_committing.specs.Adding.{AreBlobs, AreNamed, IsBlobOfOne, IsNamed, IsOfFile, IsOfStoring, RefusesFiles, StoresBlobs, StoresFiles, StoresFirst, WritesAll, file_at, file_blob, files_at}
use Rattle.vc_cli.specs.declared.failure.Failure.{Failure}
use Rattle.vc_cli.specs.declared.failure.Failure.TheVariants.{Node, Object, Fault}

-- ---- indexes with files at the same paths: what is asked of a path beside them is the same

abbrev pub SamePaths : IndexMap → IndexMap → Type 0
SamePaths m n = (q : List ℕ) → is_some (get m q) ≡ is_some (get n q)

same_back : (m n : IndexMap) → SamePaths m n → SamePaths n m
same_back m n same q = sym (same q)

same_conflict : (m n : IndexMap) (path : List ℕ) → SamePaths m n → HasConflict m path → HasConflict n path
same_conflict m n path same h = (h.0, sym (same h.0) ∙ h.1, h.2)

same_free : (m n : IndexMap) (path : List ℕ) → SamePaths m n → ¬ HasConflict m path → ¬ HasConflict n path
same_free m n path same free h = free (same_conflict n m path (same_back m n same) h)

same_put : (m n : IndexMap) (path : List ℕ) (v w : IndexEntry) → SamePaths m n → SamePaths (insert m path v) (insert n path w)
same_put m n path v w same q =
    ap is_some (get-put m path q v) ∙ by (bytes_eq q path) ∙ sym (ap is_some (get-put n path q w))
  where
    by : (b : Bool) → is_some (cond b (Some v) (get m q)) ≡ is_some (cond b (Some w) (get n q))
    by true = refl
    by false = same q

same_stand : (es : List (List ℕ × IndexEntry)) (m n : IndexMap) → SamePaths m n → MayStandAll m es → MayStandAll n es
same_stand [] m n same may = tt
same_stand (e ∷ es) m n same may = (may.0, same_free m n e.0 same may.1, same_stand es (insert m e.0 e.1) (insert n e.0 e.1) (same_put m n e.0 e.1 e.1 same) may.2)

same_of : (m n : IndexMap) (f : File) (e : Failure) → SamePaths m n → IsOfFile m f e → IsOfFile n f e
same_of m n f (Node node.BadPath) same of = of
same_of m n f (Node node.PathConflict) same of = (of.0, same_conflict m n f.path same of.1)
same_of m n f (Node (node.Store (store.Fault fault))) same of = tt
same_of m n f (Object fault) same of = (of.0, same_free m n f.path same of.1, of.2)
same_of m n f (Fault fault) same of = tt
same_of m n f _ same of = absurd of

same_refused : (fs : List File) (m n : IndexMap) (e : Failure) → SamePaths m n → RefusesFiles m fs e → RefusesFiles n fs e
same_refused [] m n e same refuses = absurd refuses
same_refused (f ∷ fs) m n e same (inl of) = inl (same_of m n f e same of)
same_refused (f ∷ fs) m n e same (inr rest) =
    let v = (file_placed f).1 in
    inr (rest.0, same_free m n f.path same rest.1, rest.2, same_refused fs (insert m f.path v) (insert n f.path v) e (same_put m n f.path v v same) rest.3)

-- ---- the loop over the files

-- From one index and files to another index and the files that are left: what may be said of these may be said of those.
pub record Leads (m : IndexMap) (files : List File) (n : IndexMap) (rest : List File) : Type 0 where
  pub may : MayStandAll n (map file_placed rest) × AreBlobs rest → MayStandAll m (map file_placed files) × AreBlobs files
  pub first : (e : Failure) → RefusesFiles n rest e → RefusesFiles m files e

module _ (m n : IndexMap) (files rest more : List File) (f : File) (leads : Leads m files n rest) (here : rest ≡ f ∷ more) where
  -- a file that is fine has its path in the index then, whatever stands there
  pub leads_more : (after : IndexMap) (w : IndexEntry) → after ≡ insert n f.path w → IsPath f.path → ¬ HasConflict n f.path → IsObject Blob f.body → Leads m files after more
  leads_more after w put legal free object =
      let v = (file_placed f).1 in
      let same : SamePaths after (insert n f.path v) = subst (λ (i : IndexMap). SamePaths i (insert n f.path v)) (sym put) (same_put n n f.path w v (λ q. refl)) in record {
        may = λ h. leads.may (
          subst (λ (fs : List File). MayStandAll n (map file_placed fs)) (sym here) (legal, free, same_stand (map file_placed more) after (insert n f.path v) same h.0),
          subst AreBlobs (sym here) (object, h.1),
        );
        first = λ e h. leads.first e (subst (λ (fs : List File). RefusesFiles n fs e) (sym here) (inr (legal, free, object, same_refused more after (insert n f.path v) e same h)));
      }

-- ---- the machine refuses the first file that is at fault

module _ (awaited : Awaited) (e : Failure) (number : ℕ) (refuses : (r : Repository) (m : IndexMap) (f : File) → IsMachineIndex r.index m → IsOfFile m f e → Refuses git git_rules r (staging f) number) where
  pub refuses_one : (files : List File) (n : CloneNode) (m : IndexMap) → n.live ≡ Some awaited → IsMachineIndex n.repository.index m → RefusesFiles m files e → RefusesOne files n number
  refuses_one [] n m live rel first = absurd first
  refuses_one (f ∷ fs) n m live rel (inl of) = inl (refused awaited number live (refuses n.repository m f rel of) refl refl refl)
  refuses_one (f ∷ fs) n m live rel (inr rest) =
      let v = (file_placed f).1 in
      inr (
        node_with awaited n f,
        stages_one awaited n m f live rel rest.0 rest.1 rest.2,
        refuses_one fs (node_with awaited n f) (insert m f.path v) refl (machine_index_put n.repository.index m f.path rel v) rest.3,
      )

pub refuses_bad_path : (r : Repository) (m : IndexMap) (f : File) → IsMachineIndex r.index m → IsOfFile m f (Node node.BadPath) → Refuses git git_rules r (staging f) 60
refuses_bad_path r m f rel of = inl (of, refl)

pub refuses_conflict : (r : Repository) (m : IndexMap) (f : File) → IsMachineIndex r.index m → IsOfFile m f (Node node.PathConflict) → Refuses git git_rules r (staging f) 61
refuses_conflict r m f rel of = inr (of.0, inl (not_free_path r.index m f.path rel of.1, refl))

pub refuses_body : (fault : _) (r : Repository) (m : IndexMap) (f : File) → IsMachineIndex r.index m → IsOfFile m f (Object fault) → Refuses git git_rules r (staging f) (object_number fault)
refuses_body fault r m f rel of = inr (of.0, inr (free_path r.index m f.path rel of.1, (fault, of.2, refl)))

-- ---- the machine stores the blobs

pub writes_more : (fs : List File) (f : File) (n k m : CloneNode) → WritesAll fs n k → CloneAnswers git git_rules k (Command (Write (blob f.body))) (Did (Made (object_name Blob f.body).0)) m None → WritesAll (fs ++ f ∷ []) n m
writes_more [] f n k m none answer = (m, subst (λ (x : CloneNode). CloneAnswers git git_rules x (Command (Write (blob f.body))) (Did (Made (object_name Blob f.body).0)) m None) none answer, refl)
writes_more (g ∷ fs) f n k m writes answer = (writes.0, writes.1, writes_more fs f writes.0 k m writes.2 answer)

-- what a stored object's answer says: its body is one of its kind, and it is there then, with all that was there
pub record IsStored (o : MachineObject) (n m : CloneNode) : Type 0 where
  pub legal : git_rules.fault o None
  pub all : AllAdded n.repository.objects (only_object git o) m.repository.objects

stored_by : (o : MachineObject) (y : Reply) (n m : CloneNode) → CloneAnswers git git_rules n (Command (Write o)) (Did y) m None → IsStored o n m
stored_by o y n m (down live other is same sends) = absurd (cc is)
stored_by o y n m (asked w q live is tells same sends) = absurd (cc is)
stored_by o y n m (refused w k live of is same sends) = absurd (cc is)
stored_by o y n m (obeyed w d live obeys ends sends) =
    let objects : d.effect.objects ≡ only_object git o = ap (λ (x : Deed Awaited). x.effect.objects) obeys.1 in
    let changes : d.effect.changes ≡ [] = ap (λ (x : Deed Awaited). x.effect.changes) obeys.1 in
    let after : m.repository.objects ≡ ends.0.0 = ap (λ (r : Repository). r.objects) ends.0.2 ∙ ap (λ (cs : List Change). (changed_all cs (with_objects n.repository ends.0.0)).objects) changes in record {
      legal = obeys.0;
      all = subst (λ (s : Objects). AllAdded n.repository.objects (only_object git o) s) (sym after) (subst (λ (c : Objects). AllAdded n.repository.objects c ends.0.0) objects ends.0.1);
    }
stored_by o y n m (pruned w live is ends sends) = absurd (cc is)
stored_by o y n m (opened is ends sends) = absurd (cc is)
stored_by o y n m (faulted w f live other is same sends) = absurd (cc is)

module _ (o : MachineObject) (n m : CloneNode) (stored : IsStored o n m) where
  some_or : (a b : Option MachineObject) → IsSome a → IsSome (option_or a b)
  some_or None b some = absurd (cc some)
  some_or (Some p) b some = refl

  or_some : (a : Option MachineObject) → IsSome (option_or a (Some o))
  or_some None = refl
  or_some (Some p) = refl

  still_there : (x : Id) → IsSome (get n.repository.objects x) → IsSome (get m.repository.objects x)
  still_there x some = subst (λ (found : Option MachineObject). IsSome found) (sym (stored.all.each x)) (some_or (get n.repository.objects x) (get (only_object git o) x) some)

  itself_there : IsSome (get m.repository.objects (git.name_of o))
  itself_there =
      let k = git.name_of o in
      let nothing : Objects = empty in
      let only : get (only_object git o) k ≡ Some o = get-put nothing k k o ∙ ap (λ (b : Bool). cond b (Some o) (get nothing k)) ((bytes_eq-Decides k k).1 refl) in
      subst (λ (found : Option MachineObject). IsSome found) (sym (stored.all.each k ∙ ap (option_or (get n.repository.objects k)) only)) (or_some (get n.repository.objects k))

-- an object of each file's name is there
abbrev AreThere : Objects → List File → Type 0
AreThere s = AllByRecursion (λ (f : File). IsSome (get s (object_name Blob f.body).0))

all_still : (fs : List File) (n m : CloneNode) → WritesAll fs n m → (x : Id) → IsSome (get n.repository.objects x) → IsSome (get m.repository.objects x)
all_still [] n m writes x some = subst (λ (k : CloneNode). IsSome (get k.repository.objects x)) (sym writes) some
all_still (f ∷ fs) n m writes x some = all_still fs writes.0 m writes.2 x (still_there (blob f.body) n writes.0 (stored_by (blob f.body) _ n writes.0 writes.1) x some)

all_there : (fs : List File) (n m : CloneNode) → WritesAll fs n m → AreThere m.repository.objects fs
all_there [] n m writes = tt
all_there (f ∷ fs) n m writes =
    let stored = stored_by (blob f.body) _ n writes.0 writes.1 in
    (all_still fs writes.0 m writes.2 (object_name Blob f.body).0 (itself_there (blob f.body) n writes.0 stored), all_there fs writes.0 m writes.2)

are_of : (s : Objects) (staged : List Staged) (fs : List File) → AreNamed staged fs → AreBlobs fs → AreThere s fs → AreOf s staged fs
are_of s [] [] named blobs there = tt
are_of s [] (f ∷ fs) named blobs there = absurd named
are_of s (t ∷ ts) [] named blobs there = absurd named
are_of s (t ∷ ts) (f ∷ fs) named blobs there = (
  record { path = named.0.path; mode = named.0.mode; name = named.0.name; legal = blobs.0; stored = subst (λ (id : ObjectId). IsSome (get s id.0)) (sym named.0.name) there.0 },
  are_of s ts fs named.1 blobs.1 there.1,
)

-- what is to be staged of files whose blobs the machine has stored
pub staged_of : (staged : List Staged) (fs : List File) (n m : CloneNode) → AreNamed staged fs → AreBlobs fs → WritesAll fs n m → AreOf m.repository.objects staged fs
staged_of staged fs n m named blobs writes = are_of m.repository.objects staged fs named blobs (all_there fs n m writes)

-- ---- the blobs that are stored

blobs_append : (m : ObjectMap) (fs gs : List File) → store_objects m (map file_blob (fs ++ gs)) ≡ store_objects (store_objects m (map file_blob fs)) (map file_blob gs)
blobs_append m [] gs = refl
blobs_append m (f ∷ fs) gs = blobs_append (store_object m (object_name Blob f.body) (file_blob f)) fs gs

pub blobs_none : (old new : FileMap) → new ≡ old → StoresBlobs [] old new
blobs_none old new same = record { stored = ap objects same; outside = subst (λ (m : FileMap). SameOutside (codes "objects/") old m) (sym same) (outside_same _ old); clean = clean_same old new same }

pub blobs_then : (fs gs : List File) (old mid new : FileMap) → StoresBlobs fs old mid → StoresBlobs gs mid new → StoresBlobs (fs ++ gs) old new
blobs_then fs gs old mid new first next = record {
  stored = next.stored ∙ ap (λ (m : ObjectMap). store_objects m (map file_blob gs)) first.stored ∙ sym (blobs_append (objects old) fs gs);
  outside = outside_then first.outside next.outside;
  clean = clean_then old mid new first.clean next.clean;
}

pub blobs_one : (f : File) (bytes : List ℕ) (id : ObjectId) (old new : FileMap) → bytes ≡ f.body → id ≡ object_name Blob bytes → StoresOnly {E = NodeFault} Blob bytes (Ok id) old new → StoresBlobs (f ∷ []) old new
blobs_one f bytes id old new same name kept = record {
  stored = ap (λ (s : Shown). s.objects) kept.stored
      ∙ ap (λ (i : ObjectId). store_object (objects old) i (stored_object Blob bytes)) name
      ∙ ap (λ (b : List ℕ). store_object (objects old) (object_name Blob b) (stored_object Blob b)) same;
  outside = kept.outside;
  clean = kept.clean;
}

-- none of the files, and all of them
pub first_none : (fs : List File) (old new : FileMap) → new ≡ old → StoresFirst fs old new
first_none fs old new same = record { done = []; rest = fs; split = refl; blobs = blobs_none old new same }

pub first_all : (fs : List File) (old new : FileMap) → StoresBlobs fs old new → StoresFirst fs old new
first_all fs old new blobs = record { done = fs; rest = []; split = sym (append-nil fs); blobs = blobs }

-- those before one, and then what came of that one
first_then : (fs more all : List File) (f : File) (old mid new : FileMap) → all ≡ fs ++ f ∷ more → StoresBlobs fs old mid → StoresFirst (f ∷ []) mid new → StoresFirst all old new
first_then fs more all f old mid new is before one = record {
  done = fs ++ one.done;
  rest = one.rest ++ more;
  split = is ∙ ap (λ (gs : List File). fs ++ (gs ++ more)) one.split ∙ ap (λ (gs : List File). fs ++ gs) (append_assoc one.done one.rest more) ∙ sym (append_assoc fs one.done (one.rest ++ more));
  blobs = blobs_then fs one.done old mid new before one.blobs;
}

blob_of_all : (fs more : List File) (f : File) (id : ObjectId) → IsBlobOfOne (f ∷ []) id → IsBlobOfOne (fs ++ f ∷ more) id
blob_of_all [] more f id (inl is) = inl is
blob_of_all [] more f id (inr none) = absurd none
blob_of_all (g ∷ fs) more f id one = inr (blob_of_all fs more f id one)

-- ---- nodes that are shown

pub stores_none : (up : Bool) (content : FileMap) → StoresFiles [] up up content content
stores_none up content = record { each = λ awaited n shows. (n, shows, refl); blobs = blobs_none content content refl }

pub stores_one : (f : File) (bytes : List ℕ) (id : ObjectId) (was is : Bool) (old new : FileMap) → bytes ≡ f.body → id ≡ object_name Blob bytes → AnswersShown (Write (blob bytes)) (Did (Made id.0)) was is (shown old) (shown new)
    → StoresOnly {E = NodeFault} Blob bytes (Ok id) old new → StoresFiles (f ∷ []) was is old new
stores_one f bytes id was is old new same name answers kept = record {
  each = λ awaited n shows.
      let g = answers.each awaited n shows in
      let named : id.0 ≡ (object_name Blob f.body).0 = ap (λ (i : ObjectId). i.0) name ∙ ap (λ (b : List ℕ). (object_name Blob b).0) same in
      let answer : CloneAnswers git git_rules n (Command (Write (blob f.body))) (Did (Made (object_name Blob f.body).0)) g.0 None =
      subst (λ (x : Id). CloneAnswers git git_rules n (Command (Write (blob f.body))) (Did (Made x)) g.0 None) named
      (subst (λ (b : List ℕ). CloneAnswers git git_rules n (Command (Write (blob b))) (Did (Made id.0)) g.0 None) same g.2) in
      (g.0, g.1, (g.0, answer, refl));
  blobs = blobs_one f bytes id old new same name kept;
}

pub stores_more : (fs : List File) (f : File) (was mid is : Bool) (old between new : FileMap) → StoresFiles fs was mid old between → StoresFiles (f ∷ []) mid is between new → StoresFiles (fs ++ f ∷ []) was is old new
stores_more fs f was mid is old between new first next = record {
  each = λ awaited n shows.
      let k = first.each awaited n shows in
      let m = next.each awaited k.0 k.1 in
      let answer : CloneAnswers git git_rules k.0 (Command (Write (blob f.body))) (Did (Made (object_name Blob f.body).0)) m.0 None =
      subst (λ (x : CloneNode). CloneAnswers git git_rules k.0 (Command (Write (blob f.body))) (Did (Made (object_name Blob f.body).0)) x None) (sym m.2.2) m.2.1 in
      (m.0, m.1, writes_more fs f n k.0 m.0 k.2 answer);
  blobs = blobs_then fs (f ∷ []) old between new first.blobs next.blobs;
}

-- ---- the functions that look at the files and store them

pub of_body : (m : IndexMap) (work : FileMap) (mode : Mode) (path bytes : List ℕ) (fault : ObjectFault) → get work path ≡ Some bytes → IsPath path → ¬ HasConflict m path → BodyFault Blob bytes fault
    → IsOfFile m (file_at work mode path) (Object fault)
of_body m work mode path bytes fault there legal free of = (legal, free, subst (λ (b : List ℕ). BodyFault Blob b fault) (sym (ap (λ (o : Option (List ℕ)). unwrap_or o []) there)) of)

-- what is left, at the next path
pub rest_at : (work : FileMap) (mode : Mode) (paths : List (String Global)) (i : ℕ) (path : String Global) → i < length paths → path ≡ get_or paths i path
    → files_at work mode (drop i paths) ≡ file_at work mode (string_bytes path) ∷ files_at work mode (drop (i + 1) paths)
rest_at work mode paths i path lt is =
    ap (files_at work mode) (drop_more paths i path lt) ∙ ap (λ (p : String Global). file_at work mode (string_bytes p) ∷ files_at work mode (drop (i + 1) paths)) (sym is)

-- what is done, with the next path
pub done_at : (work : FileMap) (mode : Mode) (paths : List (String Global)) (i : ℕ) (path : String Global) → i < length paths → path ≡ get_or paths i path
    → files_at work mode (take (i + 1) paths) ≡ files_at work mode (take i paths) ++ file_at work mode (string_bytes path) ∷ []
done_at work mode paths i path lt is =
    ap (files_at work mode) (take_more paths i path lt ∙ ap (λ (p : String Global). take i paths ++ p ∷ []) (sym is))
    ∙ ap (map (file_at work mode)) (map-append string_bytes (take i paths) (path ∷ []))
    ∙ map-append (file_at work mode) (map string_bytes (take i paths)) (string_bytes path ∷ [])

-- the body of each is one of a blob
pub blob_at : (work : FileMap) (mode : Mode) (paths : List (String Global)) (i : ℕ) (d : String Global) → i < length paths → AreBlobs (files_at work mode paths) → IsObject Blob (file_at work mode (string_bytes (get_or paths i d))).body
blob_at work mode [] i d lt blobs = let out : ⊥ = omega (arith, lt) in absurd out
blob_at work mode (p ∷ paths) zero d lt blobs = blobs.0
blob_at work mode (p ∷ paths) (suc i) d lt blobs = blob_at work mode paths i d (let less : i < length paths = omega (arith, lt) in less) blobs.1

pub named_more : (ts : List Staged) (fs : List File) (t : Staged) (f : File) → AreNamed ts fs → IsNamed t f → AreNamed (ts ++ t ∷ []) (fs ++ f ∷ [])
named_more [] [] t f named is = (is, tt)
named_more [] (g ∷ fs) t f named is = absurd named
named_more (u ∷ ts) [] t f named is = absurd named
named_more (u ∷ ts) (g ∷ fs) t f named is = (named.0, named_more ts fs t f named.1 is)

-- those that are done and those that are left are all
pub all_at : (work : FileMap) (mode : Mode) (paths : List (String Global)) (i : ℕ) → files_at work mode paths ≡ files_at work mode (take i paths) ++ files_at work mode (drop i paths)
all_at work mode paths i =
    ap (files_at work mode) (sym (take-append-drop i paths))
    ∙ ap (map (file_at work mode)) (map-append string_bytes (take i paths) (drop i paths))
    ∙ map-append (file_at work mode) (map string_bytes (take i paths)) (map string_bytes (drop i paths))

-- why the blob of a file is not stored
pub write_refused : (f : File) (bytes : List ℕ) (old new : FileMap) (e : NodeFault) → bytes ≡ f.body → IsObject Blob f.body → BlamesWrite old Blob bytes e → TellsRead (λ id. id ≡ object_name Blob bytes) NoneRead e → new ≡ old
    → IsOfStoring (f ∷ []) old new (Node e)
write_refused f bytes old new (node.Store (store.BadObject fault)) body object blames told same = absurd (no_body_fault Blob f.body fault object (subst (λ (b : List ℕ). BodyFault Blob b fault) body blames))
write_refused f bytes old new (node.Store (store.Absent id)) body object blames told same = absurd blames
write_refused f bytes old new (node.Store (store.Damaged id)) body object blames told same = (blames, inl (told ∙ ap (object_name Blob) body), first_none (f ∷ []) old new same)
write_refused f bytes old new (node.Store (store.Fault fault)) body object blames told same = first_none (f ∷ []) old new same
write_refused f bytes old new (node.Ref fault) body object blames told same = absurd blames
write_refused f bytes old new (node.Missing id) body object blames told same = absurd blames
write_refused f bytes old new (node.NotACommit id) body object blames told same = absurd blames
write_refused f bytes old new node.BadPath body object blames told same = absurd blames
write_refused f bytes old new node.PathConflict body object blames told same = absurd blames
write_refused f bytes old new (node.BadIndex place) body object blames told same = absurd blames
write_refused f bytes old new (node.WrongEntry at) body object blames told same = absurd blames
write_refused f bytes old new node.Down body object blames told same = absurd blames

-- why a file is not stored, after others that are
pub storing_from : (fs more all : List File) (f : File) (old mid new : FileMap) (e : Failure) → all ≡ fs ++ f ∷ more → StoresBlobs fs old mid → IsOfStoring (f ∷ []) mid new e → IsOfStoring all old new e
storing_from fs more all f old mid new (Node (node.Store (store.Damaged id))) is before of =
    (before.clean.stays.damage.before id of.0, subst (λ (gs : List File). IsBlobOfOne gs id) (sym is) (blob_of_all fs more f id of.1), first_then fs more all f old mid new is before of.2)
storing_from fs more all f old mid new (Node (node.Store (store.Fault fault))) is before of = first_then fs more all f old mid new is before of
storing_from fs more all f old mid new (Fault fault) is before of = first_then fs more all f old mid new is before of
storing_from fs more all f old mid new _ is before of = absurd of
