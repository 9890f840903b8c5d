use Rattle.std.proofs.Common.{rules, ◌≡◌, ◌≢◌, ◌≤◌, ◌-◌, List, [], ◌∷◌, ◌++◌, ℕ, map, take, length, ap, sym, ◌∙◌, subst, refl, inl, append-nil, Some, Ok, ◌↔◌, true}
use Rattle.std.specs.FinMap.{empty, get, insert}
use Rattle.std.specs.List.{AllByRecursion}
use Rattle.vc_files.specs.FileMap.{FileMap}
use Rattle.vc_object.specs.declared.kind.Kind.TheVariants as kinds
use Rattle.vc_object.specs.declared.mode.Mode.TheVariants as modes
use Rattle.vc_object_map.specs.Store.{objects}
use Rattle.vc_index.specs.HeldFiles.{Pair}
use Rattle.vc_index.specs.IndexMap.{IndexMap, IsFile, IsIndex, index_entry}
use Rattle.vc_index.specs.TreeFiles.{IsFileOfTree}
use Rattle.vc_index.specs.TreeReading.{ReadsIn}
use Rattle.vc_object.specs.declared.id.ObjectId.{ObjectId}
use Rattle.vc_object.specs.declared.mode.Mode.{Mode}
use Rattle.vc_index.specs.declared.entry.IndexEntry.{IndexEntry}
use Rattle.std.specs.Prelude.{Vec}
use Rattle.std.specs.Global.{Global}
use Rattle.vc_object.specs.ObjectId.{is_id}
use Rattle.vc_object.proofs.Order.{All-push}
use Rattle.vc_index.proofs.CollectLemmas.{pairs_push, with_files-more}
use Rattle.vc_index.proofs.MapLemmas.{empty-IsIndex, insert-IsIndex}
use Rattle.vc_index.specs.Reading.{pairs, with_files}
use Rattle.vc_index.specs.Loading.{IsOfLook, IsOfLoadIn, IsOpened, IsBlobIfDue, HasBlobs, item_pair}
use Rattle.vc_index.specs.declared.loading.Item.{Item}
use Rattle.vc_index.specs.declared.loading.Look.TheVariants as looks
use Rattle.vc_index.proofs.LoadLemmas.{Loading, IsNamed, work_less, load_start, load_ends, load_file, item_entry, no_conflict, opened_named, opened_less, opened_loading, look_load, due_tree, due_blob, blobs_start, blobs_more, taken, rest_named, item_legal}
use Rattle.vc_index.proofs.ReadingLemmas.{Walks, walk_start, walk_ends, walk_file, walk_opened, sound_file, look_first, long_first}
use Rattle.vc_index.proofs.loading.load.Goals as goal

pub loop-item-init : goal.loop-item-init
loop-item-init g c =
    let none : with_files (pairs c.new-found.result.items) ≡ empty = ap (λ l. with_files (pairs l)) c.new-found.ensures.items in
    let first : Item = record { path = c.new-top.result; entry = index_entry modes.Tree c.args.root.now } in
    let start : map item_pair c.push.new.self.items ≡ ([], index_entry modes.Tree c.args.root.now) ∷ [] =
    ap (map item_pair) (c.in_ok-push.ensures.items ∙ ap (λ l. l ++ first ∷ []) c.new-items.ensures.items) ∙ ap (λ (p : List ℕ). (p, index_entry modes.Tree c.args.root.now) ∷ []) c.new-top.ensures.items in
    record {
      named = subst (AllByRecursion IsNamed) (sym start) (inl (refl, refl), tt);
      loading = λ _. subst (λ (l : List Pair). Loading (objects (g.F.Files.content c.args.files.now)) c.args.root.now l (with_files (pairs c.new-found.result.items))) (sym start)
          (subst (λ (m : IndexMap). Loading (objects (g.F.Files.content c.args.files.now)) c.args.root.now (([], index_entry modes.Tree c.args.root.now) ∷ []) m) (sym none) (load_start (objects (g.F.Files.content c.args.files.now)) c.args.root.now));
      blobs = λ _ _. subst (λ (m : IndexMap). HasBlobs (objects (g.F.Files.content c.args.files.now)) m) (sym none) (blobs_start (objects (g.F.Files.content c.args.files.now)));
      walks = λ _. subst (Walks c.args.look (objects (g.F.Files.content c.args.files.now)) c.args.root.now) (sym start) (walk_start c.args.look (objects (g.F.Files.content c.args.files.now)) c.args.root.now);
      each = subst (λ (l : List (Vec ℕ Global × IndexEntry)). AllByRecursion (λ (e : Pair). IsFile e.0 e.1) (pairs l)) (sym c.new-found.ensures.items) tt;
      apart = λ _. subst (λ (m : IndexMap). IsIndex m) (sym none) empty-IsIndex;
      same = refl;
      wear = search rules;
    }

pub returns-then-len-gt-MAX_PATH-clause-refused : goal.returns-then-len-gt-MAX_PATH-clause-refused
returns-then-len-gt-MAX_PATH-clause-refused g c = λ honest.
    let item = c.in-Some.item in
    let l = subst (λ (l : List Pair). Loading (objects (g.F.Files.content c.args.files.now)) c.args.root.now l (with_files (pairs c.loop-item.found.items))) (taken c.loop-item.items.items c.pop.new.self.items item c.in-Some.ensures.items) (c.loop-item.invariant.loading honest) in
    (item.path.items, item.entry.mode, item.entry.id, item_entry (objects (g.F.Files.content c.args.files.now)) c.args.root.now (map item_pair c.pop.new.self.items) item.path.items item.entry (with_files (pairs c.loop-item.found.items)) l, search rules)

pub returns-in_err-open_folder-clause-refused : goal.returns-in_err-open_folder-clause-refused
returns-in_err-open_folder-clause-refused g c =
    let item = c.in-Some.item in
    let content = g.F.Files.content c.args.files.now in
    let there = λ (honest : g.F.Files.honest). item_entry (objects content) c.args.root.now (map item_pair c.pop.new.self.items) item.path.items item.entry (with_files (pairs c.loop-item.found.items))
    (subst (λ (l : List Pair). Loading (objects content) c.args.root.now l (with_files (pairs c.loop-item.found.items))) (taken c.loop-item.items.items c.pop.new.self.items item c.in-Some.ensures.items) (c.loop-item.invariant.loading honest)) in
    let look : IsOfLook g.F.Files.honest (g.F.Files.content c.loop-item.files) kinds.Tree item c.in_err-open_folder.field-0.0 = search (rules, c.in_err-open_folder.ensures.refused) in
    let told : IsOfLoadIn c.args.look g.F.Files.honest content c.args.root.now c.in_err-open_folder.field-0.0 =
    look_load c.args.look g.F.Files.honest content c.args.root.now item kinds.Tree there (due_tree c.args.look item.entry.mode (search rules)) c.in_err-open_folder.field-0.0
    (subst (λ (f : FileMap). IsOfLook g.F.Files.honest f kinds.Tree item c.in_err-open_folder.field-0.0) c.loop-item.invariant.same look) in
    search (rules, told)

pub returns-in_err-look_for_blob-clause-refused : goal.returns-in_err-look_for_blob-clause-refused
returns-in_err-look_for_blob-clause-refused g c =
    let item = c.in-Some.item in
    let content = g.F.Files.content c.args.files.now in
    let there = λ (honest : g.F.Files.honest). item_entry (objects content) c.args.root.now (map item_pair c.pop.new.self.items) item.path.items item.entry (with_files (pairs c.loop-item.found.items))
    (subst (λ (l : List Pair). Loading (objects content) c.args.root.now l (with_files (pairs c.loop-item.found.items))) (taken c.loop-item.items.items c.pop.new.self.items item c.in-Some.ensures.items) (c.loop-item.invariant.loading honest)) in
    let look : (c.args.look ≡ looks.All) × (item.entry.mode ≢ modes.Commit) × IsOfLook g.F.Files.honest (g.F.Files.content c.loop-item.files) kinds.Blob item c.in_err-look_for_blob.field-0.0 = search (rules, c.in_err-look_for_blob.ensures.refused) in
    let told : IsOfLoadIn c.args.look g.F.Files.honest content c.args.root.now c.in_err-look_for_blob.field-0.0 =
    look_load c.args.look g.F.Files.honest content c.args.root.now item kinds.Blob there (due_blob c.args.look item.entry.mode look.0 look.1 (search rules)) c.in_err-look_for_blob.field-0.0
    (subst (λ (f : FileMap). IsOfLook g.F.Files.honest f kinds.Blob item c.in_err-look_for_blob.field-0.0) c.loop-item.invariant.same look.2) in
    search (rules, told)

pub loop-item-smaller-then-eq : goal.loop-item-smaller-then-eq
loop-item-smaller-then-eq g c =
    let item = c.in-Some.item in
    let is = taken c.loop-item.items.items c.pop.new.self.items item c.in-Some.ensures.items in
    let short : length item.path.items ≤ 4096 = search rules in
    let less = opened_less g.F.Files.honest (g.F.Files.content c.loop-item.files) c.args.root.now item c.pop.new.self.items c.open_folder.new.items.items (with_files (pairs c.loop-item.found.items)) c.in_ok-open_folder.ensures.opened short in
    rw is less

pub loop-item-smaller : goal.loop-item-smaller
loop-item-smaller g c =
    let item = c.in-Some.item in
    let is = taken c.loop-item.items.items c.pop.new.self.items item c.in-Some.ensures.items in
    rw is (work_less (map item_pair c.pop.new.self.items) (item_pair item))

pub loop-item-preserved-then-eq : goal.loop-item-preserved-then-eq
loop-item-preserved-then-eq g c =
    let item = c.in-Some.item in
    let content = g.F.Files.content c.args.files.now in
    let m = with_files (pairs c.loop-item.found.items) in
    let is = taken c.loop-item.items.items c.pop.new.self.items item c.in-Some.ensures.items in
    let named = subst (AllByRecursion IsNamed) is c.loop-item.invariant.named in
    let opened = subst (λ (f : FileMap). IsOpened g.F.Files.honest f item c.pop.new.self.items c.open_folder.new.items.items) c.loop-item.invariant.same c.in_ok-open_folder.ensures.opened in
    record {
      named = opened_named g.F.Files.honest (g.F.Files.content c.loop-item.files) c.args.root.now item c.pop.new.self.items c.open_folder.new.items.items m c.in_ok-open_folder.ensures.opened named;
      loading = λ honest. opened_loading g.F.Files.honest content c.args.root.now item c.pop.new.self.items c.open_folder.new.items.items m opened honest (search rules)
          (subst (λ (l : List Pair). Loading (objects content) c.args.root.now l m) is (c.loop-item.invariant.loading honest));
      blobs = c.loop-item.invariant.blobs;
      walks = λ honest. walk_opened c.args.look g.F.Files.honest content c.args.root.now item c.pop.new.self.items c.open_folder.new.items.items opened honest (search rules) (search rules)
          (subst (Walks c.args.look (objects content) c.args.root.now) is (c.loop-item.invariant.walks honest));
      each = c.loop-item.invariant.each;
      apart = c.loop-item.invariant.apart;
      same = c.in_ok-open_folder.ensures.same ∙ c.loop-item.invariant.same;
      wear = search rules;
    }

pub loop-item-preserved : goal.loop-item-preserved
loop-item-preserved g c =
    let item = c.in-Some.item in
    let content = g.F.Files.content c.args.files.now in
    let m = with_files (pairs c.loop-item.found.items) in
    let is = taken c.loop-item.items.items c.pop.new.self.items item c.in-Some.ensures.items in
    let named = subst (AllByRecursion IsNamed) is c.loop-item.invariant.named in
    let loading = λ (honest : g.F.Files.honest). subst (λ (l : List Pair). Loading (objects content) c.args.root.now l m) is (c.loop-item.invariant.loading honest) in
    let file : item.entry.mode ≢ modes.Tree = search rules in
    let short : length item.path.items ≤ 4096 = search rules in
    let legal = item_legal c.pop.new.self.items item named file short in
    let valid : is_id c.named-id.result ≡ true = search rules in
    let entry : index_entry item.entry.mode c.named-id.result ≡ item.entry = ap (λ i. index_entry item.entry.mode i) (let same : c.named-id.result ≡ item.entry.id = search rules in same) in
    let pushed : c.push-else-eq.new.self.items ≡ c.loop-item.found.items ++ (item.path, index_entry item.entry.mode c.named-id.result) ∷ [] = search rules in
    let one : IsFile item.path.items item.entry = record { legal = legal; mode = file; id = subst (λ (e : IndexEntry). is_id e.id ≡ true) entry valid } in
    let new : with_files (pairs c.push-else-eq.new.self.items) ≡ insert m item.path.items item.entry =
    ap (λ l. with_files (pairs l)) pushed ∙ with_files-more c.loop-item.found.items item.path (index_entry item.entry.mode c.named-id.result) ∙ ap (insert m item.path.items) entry in
    let blob = λ (honest : g.F.Files.honest) (all : c.args.look ≡ looks.All). subst (λ (f : FileMap). IsBlobIfDue (objects f) item.entry) c.loop-item.invariant.same (c.in_ok-look_for_blob.ensures.blob honest all) in
    record {
      named = rest_named c.pop.new.self.items item named;
      loading = λ honest. subst (λ (n : IndexMap). Loading (objects content) c.args.root.now (map item_pair c.pop.new.self.items) n) (sym new)
          (load_file (objects content) c.args.root.now (map item_pair c.pop.new.self.items) item.path.items item.entry m (loading honest) file);
      blobs = λ honest all. subst (λ (n : IndexMap). HasBlobs (objects content) n) (sym new) (blobs_more (objects content) m item.path.items item.entry (c.loop-item.invariant.blobs honest all) (blob honest all));
      walks = λ honest. walk_file c.args.look (objects content) c.args.root.now (map item_pair c.pop.new.self.items) item.path.items item.entry (subst (Walks c.args.look (objects content) c.args.root.now) is (c.loop-item.invariant.walks honest)) file
          (sound_file c.args.look (objects content) item.path.items item.entry short file (λ all. blob honest all));
      each = subst (λ (l : List (Vec ℕ Global × IndexEntry)). AllByRecursion (λ (e : Pair). IsFile e.0 e.1) (pairs l)) (sym pushed)
          (subst (AllByRecursion (λ (e : Pair). IsFile e.0 e.1)) (sym (pairs_push c.loop-item.found.items item.path (index_entry item.entry.mode c.named-id.result)))
          (All-push _ (pairs c.loop-item.found.items) (item.path.items, index_entry item.entry.mode c.named-id.result) c.loop-item.invariant.each (subst (IsFile item.path.items) (sym entry) one)));
      apart = λ honest. subst (λ (n : IndexMap). IsIndex n) (sym new)
          (insert-IsIndex m item.path.items item.entry (c.loop-item.invariant.apart honest) one (no_conflict (objects content) c.args.root.now (map item_pair c.pop.new.self.items) item.path.items item.entry m (loading honest) file));
      same = c.in_ok-look_for_blob.ensures.same ∙ c.loop-item.invariant.same;
      wear = search rules;
    }

pub returns-clause-files : goal.returns-clause-files
returns-clause-files g c = λ honest.
    let none : c.loop-item.items.items ≡ [] = c.in_default.ensures.items ∙ append-nil c.pop.new.self.items ∙ c.in_default.ensures.rest ∙ ap (λ n. take (n - 1) c.loop-item.items.items) c.in_default.ensures.cases.0 in
    subst (λ (m : IndexMap). (path : List ℕ) (mode : Mode) (id : ObjectId) → IsFileOfTree (objects (g.F.Files.content c.args.files.now)) c.args.root.now path mode id ↔ (get m path ≡ Some (index_entry mode id))) (sym c.in_ok-index.ensures.ok)
    (load_ends (objects (g.F.Files.content c.args.files.now)) c.args.root.now (map item_pair c.loop-item.items.items) (with_files (pairs c.loop-item.found.items)) (ap (map item_pair) none) (c.loop-item.invariant.loading honest))

pub returns-clause-reading : goal.returns-clause-reading
returns-clause-reading g c = λ honest.
    let none : c.loop-item.items.items ≡ [] = c.in_default.ensures.items ∙ append-nil c.pop.new.self.items ∙ c.in_default.ensures.rest ∙ ap (λ n. take (n - 1) c.loop-item.items.items) c.in_default.ensures.cases.0 in
    let objects = objects (g.F.Files.content c.args.files.now) in
    subst (λ (m : IndexMap). ReadsIn c.args.look objects c.args.root.now (Ok m)) (sym c.in_ok-index.ensures.ok) (
      walk_ends c.args.look objects c.args.root.now (map item_pair c.loop-item.items.items) (ap (map item_pair) none) (c.loop-item.invariant.walks honest),
      load_ends objects c.args.root.now (map item_pair c.loop-item.items.items) (with_files (pairs c.loop-item.found.items)) (ap (map item_pair) none) (c.loop-item.invariant.loading honest),
    )

pub returns-then-len-gt-MAX_PATH-clause-first : goal.returns-then-len-gt-MAX_PATH-clause-first
returns-then-len-gt-MAX_PATH-clause-first g c = λ honest fault told.
    let item = c.in-Some.item in
    let w = subst (Walks c.args.look (objects (g.F.Files.content c.args.files.now)) c.args.root.now) (taken c.loop-item.items.items c.pop.new.self.items item c.in-Some.ensures.items) (c.loop-item.invariant.walks honest) in
    long_first c.args.look (g.F.Files.content c.args.files.now) c.args.root.now (map item_pair c.pop.new.self.items) item.path.items item.entry w (search rules) fault told

pub returns-in_err-open_folder-clause-first : goal.returns-in_err-open_folder-clause-first
returns-in_err-open_folder-clause-first g c = λ honest.
    let item = c.in-Some.item in
    let content = g.F.Files.content c.args.files.now in
    let e = c.in_err-open_folder.field-0.0 in
    let w = subst (Walks c.args.look (objects content) c.args.root.now) (taken c.loop-item.items.items c.pop.new.self.items item c.in-Some.ensures.items) (c.loop-item.invariant.walks honest) in
    let look : IsOfLook g.F.Files.honest (g.F.Files.content c.loop-item.files) kinds.Tree item e = search (rules, c.in_err-open_folder.ensures.refused) in
    let first = look_first c.args.look g.F.Files.honest content c.args.root.now item (map item_pair c.pop.new.self.items) kinds.Tree honest w (search rules) (due_tree c.args.look item.entry.mode (search rules)) e
    (subst (λ (f : FileMap). IsOfLook g.F.Files.honest f kinds.Tree item e) c.loop-item.invariant.same look) in
    search (rules, first)

pub returns-in_err-look_for_blob-clause-first : goal.returns-in_err-look_for_blob-clause-first
returns-in_err-look_for_blob-clause-first g c = λ honest.
    let item = c.in-Some.item in
    let content = g.F.Files.content c.args.files.now in
    let e = c.in_err-look_for_blob.field-0.0 in
    let w = subst (Walks c.args.look (objects content) c.args.root.now) (taken c.loop-item.items.items c.pop.new.self.items item c.in-Some.ensures.items) (c.loop-item.invariant.walks honest) in
    let look : (c.args.look ≡ looks.All) × (item.entry.mode ≢ modes.Commit) × IsOfLook g.F.Files.honest (g.F.Files.content c.loop-item.files) kinds.Blob item e = search (rules, c.in_err-look_for_blob.ensures.refused) in
    let first = look_first c.args.look g.F.Files.honest content c.args.root.now item (map item_pair c.pop.new.self.items) kinds.Blob honest w (search rules) (due_blob c.args.look item.entry.mode look.0 look.1 (search rules)) e
    (subst (λ (f : FileMap). IsOfLook g.F.Files.honest f kinds.Blob item e) c.loop-item.invariant.same look.2) in
    search (rules, first)
