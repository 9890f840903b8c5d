-- For `add` as a whole: the files that words name are there, and what each of its parts says is said of all of it.
use Rattle.std.proofs.Common.{arith, ◌≡◌, inl, inr, ℕ, zero, suc, ◌<◌, Bool, true, false, cond, List, [], ◌∷◌, ◌++◌, map, filter, length, Option, Ok, Err, refl, sym, ap, ◌∙◌, subst}
use Rattle.std.specs.Prelude.{Result, IsSome, is_some, bytes_eq, codes, not, String, string_bytes, unwrap_or}
use Rattle.std.specs.Cmp.Lexicographic.{nat_list_cmp_total}
use Rattle.std.specs.FinMap.{get, insert, entries, keys}
use Rattle.std.specs.Global.{Global}
use Rattle.std.specs.List.{All, AllByRecursion, flat_map}
use Rattle.vc_files.specs.FileMap.{FileMap, SameOutside}
use Rattle.vc_index.specs.IndexMap.{IndexMap}
use Rattle.vc_index.specs.declared.entry.IndexEntry.{IndexEntry}
use Rattle.vc_index.specs.declared.faults.IndexFault.TheVariants as index
use Rattle.vc_model.proofs.Entries.{all_entries}
use Rattle.vc_model.specs.CloneCall.{Refuses}
use Rattle.vc_model.specs.Node.Answer.{Did}
use Rattle.vc_model.specs.Node.Reply.{Stored}
use Rattle.vc_model.specs.Repository.{Repository}
use Rattle.vc_object.specs.Object.{object_name}
use Rattle.vc_object.specs.declared.kind.Kind.TheVariants.{Blob}
use Rattle.vc_object.specs.declared.mode.Mode.{Mode}
use Rattle.vc_values.specs.Faults.{object_number}
use Rattle.vc_rules.specs.Git.{git}
use Rattle.vc_values.proofs.GitLaws.{git_rules}
use Rattle.vc_object_map.specs.declared.faults.StoreFault.TheVariants as store
use Rattle.vc_local.specs.IndexFile.{BlamesIndex, SpellsIndex}
use Rattle.vc_node.specs.Stored.{KeepsStored}
use Rattle.vc_local.specs.Machine.{live_of}
use Rattle.vc_local.specs.NodeFault.{takes_down}
use Rattle.vc_local.specs.Staging.{BlamesStaging, File, MayStandAll, RefusesFirst, StagesAll, StagesShown, file_placed, placed, staging}
use Rattle.vc_local.specs.Shown.{shown}
use Rattle.vc_local.specs.declared.fault.NodeFault.{NodeFault}
use Rattle.vc_local.specs.declared.fault.NodeFault.TheVariants as node
use Rattle.vc_local.specs.declared.staging.Staged.{Staged}
use Rattle.vc_local.proofs.CleanLemmas.{clean_then}
use Rattle.vc_node.proofs.KeepingLemmas.{keeps_puts}
use Rattle.vc_local.proofs.IndexLemmas.{IsMachineIndex, spells_index}
use Rattle.vc_committing.specs.Adding.{AddsFiles, AreBlobs, AreNamed, IsOfFile, IsOfStoring, RefusesAdd, RefusesFiles, RefusesOneNamed, StoresBlobs, StoresFiles, StoresFirst, WritesAll, file_at, file_blob, files_at, files_named}
use Rattle.vc_working.specs.Naming.{Names, RefusesWords, files_below, files_named_by, is_below, spelled_path}
use Rattle.vc_cli.specs.declared.failure.Failure.{Failure}
use Rattle.vc_cli.specs.declared.failure.Failure.TheVariants.{Node, NoSuchPath, Object, Fault}
use Rattle.vc_committing.proofs.AddLemmas.{first_all, first_none, refuses_bad_path, refuses_body, refuses_conflict, refuses_one, staged_of}

-- ---- the files are there

abbrev AreThere : FileMap → List (List ℕ) → Type 0
AreThere work = AllByRecursion (λ (path : List ℕ). IsSome (get work path))

keys_there : (work : FileMap) → AreThere work (keys work)
keys_there work = of_entries (entries work) (all_entries nat_list_cmp_total (λ (e : List ℕ × List ℕ). IsSome (get work e.0)) work (λ k x is. ap is_some is))
  where
    of_entries : (es : List (List ℕ × List ℕ)) → AllByRecursion (λ (e : List ℕ × List ℕ). IsSome (get work e.0)) es → AreThere work (map (λ e. e.0) es)
    of_entries [] each = tt
    of_entries (e ∷ es) each = (each.0, of_entries es each.1)

filtered_there : (work : FileMap) (test : List ℕ → Bool) (paths : List (List ℕ)) → AreThere work paths → AreThere work (filter test paths)
filtered_there work test [] each = tt
filtered_there work test (p ∷ paths) each = by (test p) (filtered_there work test paths each.1)
  where
    by : (b : Bool) → AreThere work (filter test paths) → AreThere work (cond b (p ∷ filter test paths) (filter test paths))
    by true rest = (each.0, rest)
    by false rest = rest

both_there : (work : FileMap) (ps qs : List (List ℕ)) → AreThere work ps → AreThere work qs → AreThere work (ps ++ qs)
both_there work [] qs first then = then
both_there work (p ∷ ps) qs first then = (first.0, both_there work ps qs first.1 then)

named_there : (work : FileMap) (own word : List ℕ) → AreThere work (files_named_by work own word)
named_there work own word =
    by_dot (bytes_eq word (codes "."))
  where
    below : (start : List ℕ) → AreThere work (files_below work own start)
    below start = filtered_there work (is_below own start) (keys work) (keys_there work)

    by_file : (b : Bool) → is_some (get work word) ≡ b → AreThere work (cond b (word ∷ []) (files_below work own (spelled_path word ++ codes "/")))
    by_file true is = (is, tt)
    by_file false is = below (spelled_path word ++ codes "/")

    by_dot : (b : Bool) → AreThere work (cond b (files_below work own []) (cond (is_some (get work word)) (word ∷ []) (files_below work own (spelled_path word ++ codes "/"))))
    by_dot true = below []
    by_dot false = by_file (is_some (get work word)) refl

all_there : (work : FileMap) (own : List ℕ) (words : List (List ℕ)) → AreThere work (flat_map (files_named_by work own) words)
all_there work own [] = tt
all_there work own (word ∷ words) = both_there work (files_named_by work own word) (flat_map (files_named_by work own) words) (named_there work own word) (all_there work own words)

each_there : (work : FileMap) (paths : List (String Global)) → AreThere work (map string_bytes paths) → All (λ (p : String Global). IsSome (get work (string_bytes p))) paths
each_there work [] each k d lt = let out : ⊥ = omega (arith, lt) in absurd out
each_there work (p ∷ paths) each zero d lt = each.0
each_there work (p ∷ paths) each (suc k) d lt = each_there work paths each.1 k d (let less : k < length paths = omega (arith, lt) in less)

-- each path that the words name has a file
pub paths_there : (work w : FileMap) (own : List ℕ) (words : List (List ℕ)) (paths ps : List (String Global)) → w ≡ work → ps ≡ paths → map string_bytes paths ≡ flat_map (files_named_by work own) words
    → All (λ (p : String Global). IsSome (get w (string_bytes p))) ps
paths_there work w own words paths ps same is named =
    subst (λ (x : FileMap). All (λ (p : String Global). IsSome (get x (string_bytes p))) ps) (sym same)
    (subst (λ (xs : List (String Global)). All (λ (p : String Global). IsSome (get work (string_bytes p))) xs) (sym is)
    (each_there work paths (subst (AreThere work) (sym named) (all_there work own words))))

-- the files at the paths are those that the words name
pub files_same : (work w : FileMap) (own : List ℕ) (mode m : Mode) (words : List (List ℕ)) (paths ps : List (String Global)) → w ≡ work → m ≡ mode → ps ≡ paths → map string_bytes paths ≡ flat_map (files_named_by work own) words
    → files_at w m ps ≡ files_named work own mode words
files_same work w own mode m words paths ps same modes is named =
    ap (λ (x : FileMap). files_at x m ps) same ∙ ap (λ (x : Mode). files_at work x ps) modes ∙ ap (files_at work mode) is ∙ ap (map (file_at work mode)) named

-- ---- whether the node was up

-- a call that a node that is down refuses was answered by one that is up
pub was_up : {T : Type 0} (was : Bool) (x : T) (e : NodeFault) → (was ≡ false → ◌≡◌ {A = Result T NodeFault} (Ok x) (Err e)) → was ≡ true
was_up true x e never = refl
was_up false x e never = let bad : ◌≡◌ (Ok x) (Err e) = never refl in cc

module _ (work : FileMap) (own : List ℕ) (mode : Mode) (words : List (List ℕ)) (was is : Bool) (old new : FileMap) (same : new ≡ old) where
  none_stored : StoresFirst (files_named work own mode words) old new
  none_stored = first_none (files_named work own mode words) old new same

  -- a word is refused
  pub words_refused : (e : Failure) → is ≡ was → RefusesWords work own words e → RefusesAdd work own mode words was is old new e
  words_refused (Node node.BadPath) up refuses = inl (refuses, record { files = same; up = up })
  words_refused NoSuchPath up refuses = (refuses, record { files = same; up = up })
  words_refused (Fault fault) up refuses = none_stored
  words_refused e up refuses = absurd (refuses)

  -- the index isn't told
  index_blamed : (e : NodeFault) → was ≡ true → is ≡ not (takes_down e) → BlamesIndex old e → RefusesAdd work own mode words was is old new (Node e)
  index_blamed (node.Store (store.BadObject f)) up after blames = absurd blames
  index_blamed (node.Store (store.Absent id)) up after blames = absurd blames
  index_blamed (node.Store (store.Damaged id)) up after blames = absurd blames
  index_blamed (node.Store (store.Fault f)) up after blames = none_stored
  index_blamed (node.BadIndex place) up after blames = (blames, record { files = same; up = after ∙ sym up })
  index_blamed (node.Ref f) up after blames = absurd blames
  index_blamed (node.Missing id) up after blames = absurd blames
  index_blamed (node.NotACommit id) up after blames = absurd blames
  index_blamed node.BadPath up after blames = absurd blames
  index_blamed node.PathConflict up after blames = absurd blames
  index_blamed (node.WrongEntry at) up after blames = absurd blames
  index_blamed node.Down up after blames = absurd blames

  pub index_refused : (e : NodeFault) → (was ≡ false → ◌≡◌ {A = NodeFault} e node.Down) → (was ≡ true → is ≡ not (takes_down e)) → (was ≡ true → BlamesIndex old e) → RefusesAdd work own mode words was is old new (Node e)
  index_refused e down after blames = by was refl
    where
      by : (b : Bool) → was ≡ b → RefusesAdd work own mode words was is old new (Node e)
      by true up = index_blamed e up (after up) (blames up)
      by false none = subst (λ (x : NodeFault). RefusesAdd work own mode words was is old new (Node x)) (sym (down none)) (none, same)

  -- a file is refused beside the index and the files before it
  module _ (up : was ≡ true) (after : is ≡ true) (names : AllByRecursion (Names work own) words) where
    one_refused : (e : Failure) (number : ℕ) → ((r : Repository) (m : IndexMap) (f : File) → IsMachineIndex r.index m → IsOfFile m f e → Refuses git git_rules r (staging f) number)
        → ((m : IndexMap) → SpellsIndex old m → RefusesFiles m (files_named work own mode words) e) → RefusesOneNamed work own mode words was is old new number
    one_refused e number refuses first = record {
      names = names;
      one = λ awaited n shows.
          let p = shows.spells in
          refuses_one awaited e number refuses (files_named work own mode words) n p.map (shows.live ∙ ap (λ (u : Bool). live_of u awaited) up) p.index (first p.map (spells_index old n.repository p));
      same = record { files = same; up = after ∙ sym up };
    }

    none_of : {P : Type 0} (fs : List File) (m : IndexMap) (e : Failure) → ((n : IndexMap) (f : File) → IsOfFile n f e → P) → RefusesFiles m fs e → P
    none_of [] m e told refuses = absurd refuses
    none_of (f ∷ fs) m e told (inl of) = told m f of
    none_of (f ∷ fs) m e told (inr rest) = none_of fs (insert m f.path (file_placed f).1) e told rest.3

    pub files_refused : (e : Failure) (m : IndexMap) → SpellsIndex old m → ((n : IndexMap) → SpellsIndex old n → n ≡ m) → RefusesFiles m (files_named work own mode words) e → RefusesAdd work own mode words was is old new e
    files_refused (Node node.BadPath) m spells only refuses = inr (one_refused (Node node.BadPath) 60 refuses_bad_path (λ n s. subst (λ (i : IndexMap). RefusesFiles i (files_named work own mode words) (Node node.BadPath)) (sym (only n s)) refuses))
    files_refused (Node node.PathConflict) m spells only refuses = one_refused (Node node.PathConflict) 61 refuses_conflict (λ n s. subst (λ (i : IndexMap). RefusesFiles i (files_named work own mode words) (Node node.PathConflict)) (sym (only n s)) refuses)
    files_refused (Object fault) m spells only refuses = one_refused (Object fault) (object_number fault) (refuses_body fault) (λ n s. subst (λ (i : IndexMap). RefusesFiles i (files_named work own mode words) (Object fault)) (sym (only n s)) refuses)
    files_refused (Node (node.Store (store.Fault f))) m spells only refuses = none_stored
    files_refused (Fault f) m spells only refuses = none_stored
    files_refused e m spells only refuses = absurd (none_of (files_named work own mode words) m e (λ n f of. of) refuses)

-- ---- the one write of the index

place_of : (t : Staged) (f : File) → t.path.items ≡ f.path → t.mode ≡ f.mode → t.id ≡ object_name Blob f.body → placed t ≡ file_placed f
place_of t f path mode name i = (path i, record { mode = mode i; id = name i })

named_placed : (ts : List Staged) (fs : List File) → AreNamed ts fs → map placed ts ≡ map file_placed fs
named_placed [] [] named = refl
named_placed [] (f ∷ fs) named = absurd named
named_placed (t ∷ ts) [] named = absurd named
named_placed (t ∷ ts) (f ∷ fs) named =
    ap (λ (e : List ℕ × IndexEntry). e ∷ map placed ts) (place_of t f named.0.path named.0.mode named.0.name) ∙ ap (λ (es : List (List ℕ × IndexEntry)). file_placed f ∷ es) (named_placed ts fs named.1)

-- what may stand in the index has no first path that may not
none_refused : (m : IndexMap) (es : List (List ℕ × IndexEntry)) → MayStandAll m es → RefusesFirst m es index.BadPath → ⊥
none_refused m [] may first = first
none_refused m (e ∷ es) may (inl of) = of may.0
none_refused m (e ∷ es) may (inr rest) = none_refused (insert m e.0 e.1) es may.2 rest.2

none_conflicts : (m : IndexMap) (es : List (List ℕ × IndexEntry)) → MayStandAll m es → RefusesFirst m es index.PathConflict → ⊥
none_conflicts m [] may first = first
none_conflicts m (e ∷ es) may (inl of) = may.1 of.1
none_conflicts m (e ∷ es) may (inr rest) = none_conflicts (insert m e.0 e.1) es may.2 rest.2

module _ (work : FileMap) (own : List ℕ) (mode : Mode) (words : List (List ℕ)) (was is : Bool) (old mid new : FileMap) (same : new ≡ mid) where
  pub staging_refused : (m : IndexMap) (ts : List Staged) (fs : List File) (e : NodeFault) → fs ≡ files_named work own mode words → StoresBlobs fs old mid → AreNamed ts fs → MayStandAll m (map file_placed fs) → BlamesStaging m (map placed ts) e → RefusesAdd work own mode words was is old new (Node e)
  staging_refused m ts fs (node.Store (store.Fault f)) files blobs named may blames = subst (λ (gs : List File). StoresFirst gs old new) files (first_all fs old new (subst (StoresBlobs fs old) (sym same) blobs))
  staging_refused m ts fs (node.Store (store.BadObject f)) files blobs named may blames = absurd blames.0
  staging_refused m ts fs (node.Store (store.Absent id)) files blobs named may blames = absurd blames.0
  staging_refused m ts fs (node.Store (store.Damaged id)) files blobs named may blames = absurd blames.0
  staging_refused m ts fs node.BadPath files blobs named may blames = absurd (none_refused m (map placed ts) (subst (λ (es : List (List ℕ × IndexEntry)). MayStandAll m es) (sym (named_placed ts fs named)) may) blames)
  staging_refused m ts fs node.PathConflict files blobs named may blames = absurd (none_conflicts m (map placed ts) (subst (λ (es : List (List ℕ × IndexEntry)). MayStandAll m es) (sym (named_placed ts fs named)) may) blames)
  staging_refused m ts fs (node.Ref f) files blobs named may blames = absurd blames
  staging_refused m ts fs (node.Missing id) files blobs named may blames = absurd blames
  staging_refused m ts fs (node.NotACommit id) files blobs named may blames = absurd blames
  staging_refused m ts fs (node.BadIndex place) files blobs named may blames = absurd blames
  staging_refused m ts fs (node.WrongEntry at) files blobs named may blames = absurd blames
  staging_refused m ts fs node.Down files blobs named may blames = absurd blames

-- the blobs are not all stored
pub storing_refused : (work : FileMap) (own : List ℕ) (mode : Mode) (words : List (List ℕ)) (was is : Bool) (old new : FileMap) (e : Failure) → IsOfStoring (files_named work own mode words) old new e → RefusesAdd work own mode words was is old new e
storing_refused work own mode words was is old new (Node (node.Store (store.Damaged id))) of = of
storing_refused work own mode words was is old new (Node (node.Store (store.Fault fault))) of = of
storing_refused work own mode words was is old new (Fault fault) of = of
storing_refused work own mode words was is old new e of = absurd of

-- files of objects alone were changed, so the index is spelled as it was
pub still_spelled : (old mid : FileMap) (m : IndexMap) → SameOutside (codes "objects/") old mid → SpellsIndex old m → SpellsIndex mid m
still_spelled old mid m outside s = record { sound = s.sound; text = ap (λ (found : Option (List ℕ)). unwrap_or found []) (outside.at (codes "index") refl) ∙ s.text }

-- the blobs were stored, and then all files staged
pub adds_files : (work : FileMap) (own : List ℕ) (mode : Mode) (words : List (List ℕ)) (was mid is : Bool) (old between new : FileMap) (ts : List Staged) (fs : List File) → fs ≡ files_named work own mode words
    → AllByRecursion (Names work own) words → AreNamed ts fs → AreBlobs fs → StoresFiles fs was mid old between → StagesShown ts (Did Stored) mid is (shown between) (shown new) → KeepsStored between new → AddsFiles work own mode words was is old new
adds_files work own mode words was mid is old between new ts fs files names named blobs stored staged kept = record {
  names = names;
  each = λ awaited n shows.
      let k = stored.each awaited n shows in
      let m = staged.each awaited k.0 fs k.1 (staged_of ts fs n k.0 named blobs k.2) in (
        k.0,
        m.0,
        subst (λ (gs : List File). WritesAll gs n k.0) files k.2,
        subst (λ (gs : List File). StagesAll gs k.0 m.0) files m.2.1,
        m.1,
      );
  kept = record {
    objects = record { at = λ id o is. kept.objects.at id o ((keeps_puts old between (map file_blob fs) stored.blobs.stored).at id o is) };
    clean = clean_then old between new stored.blobs.clean kept.clean;
  };
}
