-- What a call spends is what the machine allows: one write for each place that changed. The packed file is the place of one ref.
use Rattle.std.proofs.Common.{◌≡◌, ◌⊎◌, inl, inr, ℕ, ◌-◌, ◌≤◌, Bool, true, false, cond, List, ◌∷◌, Option, Some, None, Result, Ok, Err, IsTrue, Contains, map, nat_eq, codes, refl, sym, ap, ◌∙◌, subst, arith, []}
use Rattle.std.specs.Prelude.{bytes_eq, option_map, unwrap_or}
use Rattle.std.specs.FinMap.{get, same_map}
use Rattle.std.specs.List.{starts_with}
use Rattle.std.specs.Result.{result_ok}
use Rattle.std.specs.Cmp.Lexicographic.{nat_list_cmp_total}
use Rattle.std.proofs.lemmas.Bool.{and_parts}
use Rattle.std.proofs.lemmas.List.{length-map}
use Rattle.std.proofs.lemmas.List.Elements.{Contains-append_right, Contains-append_cases, Contains-push_cases}
use Rattle.std.proofs.lemmas.Slice.Eq.{bytes_eq-Decides}
use Rattle.vc_files.specs.FileMap.{FileMap}
use Rattle.vc_files.specs.Failures.{DifferAtMost, Spends, Wears, Writes}
use Rattle.vc_files.specs.declared.faults.Fault.{Fault as FilesFault}
use Rattle.vc_files.specs.declared.faults.Fault.TheVariants as device
use Rattle.vc_format.specs.Git.{id_of_bytes}
use Rattle.vc_index.proofs.AgainLemmas.{one_index}
use Rattle.vc_rules.proofs.OnceLemmas.{id_once, some_once}
use Rattle.vc_model.specs.Object.{Id}
use Rattle.vc_model.specs.Refs.{RefName}
use Rattle.vc_model.specs.Repository.{Repository}
use Rattle.vc_model.specs.Fuse.{Burns, DiffersAt, Place, WritesSuffice}
use Rattle.vc_model.specs.Fuse.Place.{AnObject, ARef, TheRefs, TheHead, TheIndex}
use Rattle.vc_model.specs.Node.{Answer}
use Rattle.vc_model.specs.Node.Answer.{Fault}
use Rattle.vc_model.specs.Node.Failure.{Device}
use Rattle.vc_model.proofs.Maps.{bytes_same}
use Rattle.vc_object.specs.ObjectId.{is_name}
use Rattle.vc_object.specs.declared.id.ObjectId.{ObjectId}
use Rattle.vc_refname.specs.RefName.{is_ref_name}
use Rattle.vc_refs.specs.RefMap.{is_ref}
use Rattle.vc_refs.specs.Packing.{UnpacksOnly}
use Rattle.vc_refs.specs.Head.{KeepsOutside}
use Rattle.vc_refs.specs.Refs.{packed_at, packed_path, refs}
use Rattle.vc_refs.proofs.LayeredLemmas.{packed_map-same, ref_legal, refs-same, value_same}
use Rattle.vc_refs.specs.declared.faults.RefFault.{RefFault}
use Rattle.vc_refs.specs.declared.faults.RefFault.TheVariants as ref
use Rattle.vc_refs.specs.declared.heads.Head.{Head as RefsHead}
use Rattle.vc_refs.proofs.LayeredListingLemmas.{head_of-same}
use Rattle.vc_object_map.specs.Store.{name_in, object_path, objects, stored_in}
use Rattle.vc_object_map.specs.declared.faults.StoreFault.{StoreFault}
use Rattle.vc_object_map.specs.declared.faults.StoreFault.TheVariants as store
use Rattle.vc_store.proofs.PathLemmas.{name_in-some, name_in-object_path}
use Rattle.vc_values.specs.Trees.{machine_entry}
use Rattle.vc_local.specs.Machine.{Spells, done_answer, fault_answer, failure_of, machine_head, made_answer, ref_answer, store_answer}
use Rattle.vc_local.specs.NodeFault.{IsOfDevice, TellsDevice}
use Rattle.vc_local.specs.Shown.{Shown, shown}
use Rattle.vc_local.specs.declared.fault.NodeFault.{NodeFault}
use Rattle.vc_local.specs.declared.fault.NodeFault.TheVariants.{Store, Ref}

-- ---- the place of a path

abbrev named_place : RefName → List ℕ → Option ObjectId → Place
named_place name path (Some id) = AnObject id.0
named_place name path None = cond (bytes_eq path (codes "HEAD")) TheHead (cond (bytes_eq path (codes "index")) TheIndex (cond (bytes_eq path packed_path) (ARef name) (ARef path)))

-- the one place that a file of this path shows, where the packed file shows no other ref than this one
abbrev place : RefName → List ℕ → Place
place name path = named_place name path (name_in path)

object_place : (name : RefName) (x : Id) → is_name x ≡ true → place name (object_path x) ≡ AnObject x
object_place name x valid = ap (named_place name (object_path x)) (name_in-object_path x valid)

ref_place : (name n : RefName) → is_ref n ≡ true → place name n ≡ ARef n
ref_place name n is = by (name_in n) refl
  where
    begins : starts_with nat_eq n (codes "refs/") ≡ true
    begins = (and_parts (is_ref_name n) (starts_with nat_eq n (codes "refs/")) is).1

    is_not : (other : List ℕ) → starts_with nat_eq other (codes "refs/") ≡ false → bytes_eq n other ≡ false
    is_not other begins_not = no (bytes_eq n other) refl
      where
        no : (b : Bool) → bytes_eq n other ≡ b → bytes_eq n other ≡ false
        no true e = absurd (cc (sym (ap (λ m. starts_with nat_eq m (codes "refs/")) ((bytes_eq-Decides n other).0 e)) ∙ begins, begins_not))
        no false e = e

    by : (o : Option ObjectId) → name_in n ≡ o → place name n ≡ ARef n
    by (Some id) e = absurd (cc (sym (ap (λ m. starts_with nat_eq m (codes "refs/")) (name_in-some n id e).0) ∙ begins))
    by None e =
        ap (named_place name n) e
        ∙ ap (λ b. cond b TheHead (cond (bytes_eq n (codes "index")) TheIndex (cond (bytes_eq n packed_path) (ARef name) (ARef n)))) (is_not (codes "HEAD") refl)
        ∙ ap (λ b. cond b TheIndex (cond (bytes_eq n packed_path) (ARef name) (ARef n))) (is_not (codes "index") refl)
        ∙ ap (λ b. cond b (ARef name) (ARef n)) (is_not packed_path refl)

-- no file is the place of all refs at once
no_place_of_all : (name : RefName) (path : List ℕ) → place name path ≡ TheRefs → ⊥
no_place_of_all name path = by (name_in path)
  where
    else_ref : (b c d : Bool) → cond b TheHead (cond c TheIndex (cond d (ARef name) (ARef path))) ≡ TheRefs → ⊥
    else_ref true c d e = cc e
    else_ref false true d e = cc e
    else_ref false false true e = cc e
    else_ref false false false e = cc e

    by : (o : Option ObjectId) → named_place name path o ≡ TheRefs → ⊥
    by (Some id) e = cc e
    by None e = else_ref (bytes_eq path (codes "HEAD")) (bytes_eq path (codes "index")) (bytes_eq path packed_path) e

-- ---- lists of images

mapped : {X Y : Type 0} (f : X → Y) (xs : List X) (x : X) → Contains xs x → Contains (map f xs) (f x)
mapped f [] x h = absurd (let k = h.1 in omega arith)
mapped f (y ∷ ys) x h = elim (Contains-append_cases (y ∷ []) ys x h) [
  | inl first ↦ elim (Contains-push_cases [] y x first) [
    | inl none ↦ absurd (let k = none.1 in omega arith)
    | inr same ↦ subst (λ z. Contains (map f (y ∷ ys)) (f z)) same (0, omega arith, refl)
  ]
  | inr later ↦ Contains-append_right (f y ∷ []) (map f ys) (f x) (mapped f ys x later)
]

image_of : {X Y : Type 0} (f : X → Y) (xs : List X) (y : Y) → Contains (map f xs) y → (x : X) × (f x ≡ y)
image_of f [] y h = absurd (let k = h.1 in omega arith)
image_of f (x ∷ xs) y h = elim (Contains-append_cases (f x ∷ []) (map f xs) y h) [
  | inl first ↦ elim (Contains-push_cases [] (f x) y first) [
    | inl none ↦ absurd (let k = none.1 in omega arith)
    | inr same ↦ (x, same)
  ]
  | inr later ↦ image_of f xs y later
]

-- ---- a file that is as it was shows what it showed

object_at : (old new : FileMap) (x : Id) → (is_name x ≡ true → get new (object_path x) ≡ get old (object_path x)) → objects new (id_of_bytes x) ≡ objects old (id_of_bytes x)
unfolding objects
object_at old new x same = by (is_name x) refl
  where
    by : (b : Bool) → is_name x ≡ b → cond b (result_ok (stored_in (id_of_bytes x) (get new (object_path x)))) None ≡ cond b (result_ok (stored_in (id_of_bytes x) (get old (object_path x)))) None
    by true e = ap (λ f. result_ok (stored_in (id_of_bytes x) f)) (same e)
    by false e = refl

-- a name that is no ref's stands for nothing
no_ref_at : (content : FileMap) (n : RefName) → is_ref n ≡ false → refs content n ≡ None
no_ref_at content n other = by (refs content n) refl
  where
    by : (o : Option ObjectId) → refs content n ≡ o → o ≡ None
    by None is = refl
    by (Some id) is = absurd (cc (sym (ref_legal content n id is) ∙ other))

module _ (old new : FileMap) (r s : Repository) (p : Spells (shown old) r) (q : Spells (shown new) s) (name : RefName) (packed : UnpacksOnly name old new) (paths : List (List ℕ)) (each : (path : List ℕ) → (get new path ≡ get old path) ⊎ Contains paths path) where
  at : (path : List ℕ) → (get new path ≡ get old path) ⊎ Contains (map (place name) paths) (place name path)
  at path = elim (each path) [
    | inl same ↦ inl same
    | inr there ↦ inr (mapped (place name) paths path there)
  ]

  objects_differ : (x : Id) → (get s.objects x ≡ get r.objects x) ⊎ Contains (map (place name) paths) (AnObject x)
  objects_differ x = by (is_name x) refl
    where
      same_as : (is_name x ≡ true → get new (object_path x) ≡ get old (object_path x)) → get s.objects x ≡ get r.objects x
      same_as same = some_once (get s.objects x) (get r.objects x) (sym (q.objects x) ∙ object_at old new x same ∙ p.objects x)

      by : (b : Bool) → is_name x ≡ b → (get s.objects x ≡ get r.objects x) ⊎ Contains (map (place name) paths) (AnObject x)
      by true valid = elim (at (object_path x)) [
        | inl same ↦ inl (same_as (λ _. same))
        | inr there ↦ inr (subst (λ y. Contains (map (place name) paths) y) (object_place name x valid) there)
      ]
      by false valid = inl (same_as (λ e. absurd (cc (e, valid))))

  refs_differ : (n : RefName) → (get s.refs n ≡ get r.refs n) ⊎ Contains (map (place name) paths) (ARef n)
  refs_differ n = by (is_ref n) refl
    where
      same_as : refs new n ≡ refs old n → get s.refs n ≡ get r.refs n
      same_as same = id_once (get s.refs n) (get r.refs n) (sym (q.refs n) ∙ same ∙ p.refs n)

      -- its own file is as it was, and the packed one isn't: then it is that one ref, or the packed file says of it what it said
      by_name : get new n ≡ get old n → Contains (map (place name) paths) (ARef name) → (b : Bool) → bytes_eq n name ≡ b → (get s.refs n ≡ get r.refs n) ⊎ Contains (map (place name) paths) (ARef n)
      by_name same there true is = inr (subst (λ (m : RefName). Contains (map (place name) paths) (ARef m)) (sym ((bytes_eq-Decides n name).0 is)) there)
      by_name same there false other = inl (same_as (value_same old new n same (packed.at n other)))

      by : (b : Bool) → is_ref n ≡ b → (get s.refs n ≡ get r.refs n) ⊎ Contains (map (place name) paths) (ARef n)
      by true is = elim (at n) [
        | inl same ↦ elim (at packed_path) [
          | inl line ↦ inl (same_as (refs-same old new n same line))
          | inr there ↦ by_name same there (bytes_eq n name) refl
        ]
        | inr there ↦ inr (subst (λ y. Contains (map (place name) paths) y) (ref_place name n is) there)
      ]
      by false is = inl (same_as (no_ref_at new n is ∙ sym (no_ref_at old n is)))

  head_differs : (s.head ≡ r.head) ⊎ Contains (map (place name) paths) TheHead
  head_differs = elim (at (codes "HEAD")) [
    | inl same ↦ inl (
        let heads : ◌≡◌ {A = Option RefsHead} (Some q.head) (Some p.head) = sym q.head_shown ∙ head_of-same old new same ∙ p.head_shown in
        q.head_is ∙ ap machine_head (ap (λ h. unwrap_or h p.head) heads) ∙ sym p.head_is)
    | inr there ↦ inr there
  ]

  index_differs : (s.index ≡ r.index) ⊎ Contains (map (place name) paths) TheIndex
  index_differs = elim (at (codes "index")) [
    | inl same ↦ inl (
        let maps : q.map ≡ p.map = one_index q.map p.map q.map_sound p.map_sound (sym q.map_shown ∙ ap (λ f. unwrap_or f []) same ∙ p.map_shown) in
        same_map nat_list_cmp_total bytes_same s.index r.index (λ path. q.index path ∙ ap (λ m. option_map machine_entry (get m path)) maps ∙ sym (p.index path)))
    | inr there ↦ inr there
  ]

  differs : DiffersAt (map (place name) paths) r s
  differs = record {
    objects = objects_differ;
    refs = λ n. elim (refs_differ n) [
      | inl same ↦ inl same
      | inr there ↦ inr (inl there)
    ];
    head = head_differs;
    index = index_differs;
  }

-- one write a path suffices in the machine
pub suffices : (old new : FileMap) (r s : Repository) → Spells (shown old) r → Spells (shown new) s → (name : RefName) → UnpacksOnly name old new → (k : ℕ) → DifferAtMost k old new → WritesSuffice ⊥ k r s
suffices old new r s p q name packed k d = (
  map (place name) d.0,
  subst (λ l. l ≤ k) (sym (length-map d.0 (place name))) d.1,
  λ all. let image = image_of (place name) d.0 TheRefs all in no_place_of_all name image.0 image.1,
  differs old new r s p q name packed d.0 d.2,
)

-- and one for all refs where they are set as one, and beside the files in which refs stand nothing changes
module _ (old new : FileMap) (r s : Repository) (p : Spells (shown old) r) (q : Spells (shown new) s) (rest : KeepsOutside old new) where
  refs_alone : DiffersAt (TheRefs ∷ []) r s
  refs_alone = record {
    objects = λ x. inl (some_once (get s.objects x) (get r.objects x) (sym (q.objects x) ∙ object_at old new x (λ valid. rest.at (object_path x) refl refl) ∙ p.objects x));
    refs = λ n. inr (inr (0, omega arith, refl));
    head = inl (
        let heads : ◌≡◌ {A = Option RefsHead} (Some q.head) (Some p.head) = sym q.head_shown ∙ rest.head ∙ p.head_shown in
        q.head_is ∙ ap machine_head (ap (λ h. unwrap_or h p.head) heads) ∙ sym p.head_is);
    index = inl (
        let maps : q.map ≡ p.map = one_index q.map p.map q.map_sound p.map_sound (sym q.map_shown ∙ ap (λ f. unwrap_or f []) (rest.at (codes "index") refl refl) ∙ p.map_shown) in
        same_map nat_list_cmp_total bytes_same s.index r.index (λ path. q.index path ∙ ap (λ m. option_map machine_entry (get m path)) maps ∙ sym (p.index path)));
  }

  pub suffices_together : (t : Type 0) → t → (k : ℕ) → DifferAtMost k old new → WritesSuffice t k r s
  suffices_together t all k ([], few, each) =
      let same : get new packed_path ≡ get old packed_path = elim (each packed_path) [ inl same ↦ same | inr there ↦ absurd (let here = there.1 in omega arith) ] in
      let kept = suffices old new r s p q [] (record { at = λ n other. ap (λ m. packed_at m n) (packed_map-same old new same) }) k ([], few, each) in
      (kept.0, kept.1, λ set. absurd (kept.2 set), kept.3)
  suffices_together t all k (path ∷ paths, few, each) = (TheRefs ∷ [], omega (arith, few), λ set. all, refs_alone)

-- and any number of them where what is shown is as it was
pub suffices_unchanged : (old new : FileMap) (r s : Repository) → Spells (shown old) r → Spells (shown new) s → shown new ≡ shown old → (k : ℕ) → DifferAtMost k old new → WritesSuffice ⊥ k r s
suffices_unchanged old new r s p shows same k d = (
  [],
  omega arith,
  λ all. absurd (let here = all.1 in omega arith),
  record {
    objects = λ x. inl (some_once (get s.objects x) (get r.objects x) (sym (q.objects x) ∙ p.objects x));
    refs = λ n. inl (id_once (get s.refs n) (get r.refs n) (sym (q.refs n) ∙ p.refs n));
    head = inl (q.head_is ∙ ap machine_head (ap (λ h. unwrap_or h p.head) (sym q.head_shown ∙ p.head_shown)) ∙ sym p.head_is);
    index = inl (same_map nat_list_cmp_total bytes_same s.index r.index (λ path. q.index path ∙ ap (λ m. option_map machine_entry (get m path)) maps ∙ sym (p.index path)));
  },
)
  where
    q : Spells (shown old) s
    q = subst (λ (t : Shown). Spells t s) same shows

    maps : q.map ≡ p.map
    maps = one_index q.map p.map q.map_sound p.map_sound (sym q.map_shown ∙ p.map_shown)

-- ---- the call

-- where no stop was set before, none is set after
pub spent_none : (made : ℕ) (before after : Option ℕ) → before ≡ None → Spends made before after → after ≡ None
spent_none made None after none spent = spent
spent_none made (Some w) after none spent = absurd (cc none)

module _ {D : Type 0} (honest : Type 0) (content : D → FileMap) (failed : D → ℕ) (can_fail : D → Type 0) (left : D → Option ℕ) (old new : D) (IsDevice : Type 0) (frail : Bool) (may t : Type 0) (a : Answer) (r s : Repository) where
  pub burns : honest → (a ≡ Fault Device → IsDevice) → (a ≡ Fault Device → can_fail old → IsTrue frail) → Writes honest content failed can_fail left old new IsDevice → may ⊎ Wears failed can_fail left old new IsDevice
      → ((k : ℕ) → DifferAtMost k (content old) (content new) → WritesSuffice t k r s) → Burns frail (left old) may t r s a (left new)
  burns is_honest tells can w looks enough = by (left old) refl
    where
      none_left : (made : ℕ) → ◌≡◌ {A = Option ℕ} None (Some made) → ⊥
      none_left made e = cc e

      by : (o : Option ℕ) → left old ≡ o → Burns frail o may t r s a (left new)
      by None e = (
        λ is. elim (w.could (tells is)) [
          | inl could ↦ can is could
          | inr stopped ↦ absurd (none_left w.made (sym e ∙ stopped))
        ],
        subst (λ o. Spends w.made o (left new)) e w.spent,
      )
      by (Some writes) e = elim looks [
        | inl wants ↦ (
          w.made,
          spent.0,
          λ not. absurd (not wants),
          enough w.made (w.differ is_honest),
          spent.1,
          λ is. elim (w.could (tells is)) [
            | inl could ↦ inl (can is could)
            | inr stopped ↦ inr (wants, sym (ap (λ o. unwrap_or o 0) (sym e ∙ stopped)))
          ],
        )
        | inr look ↦
            let kept : writes - w.made ≡ writes = ap (λ o. unwrap_or o 0) (sym spent.1 ∙ look.unspent ∙ e) in
            let none : w.made ≡ 0 = omega (arith, kept, spent.0) in
            let whole : writes ≡ writes - 0 = omega arith in (
              0,
              omega arith,
              λ _. refl,
              enough 0 (subst (λ k. DifferAtMost k (content old) (content new)) none (w.differ is_honest)),
              look.unspent ∙ e ∙ ap Some whole,
              λ is. inl (can is (look.could (tells is))),
            )
      ]
        where
          spent : (w.made ≤ writes) × (left new ≡ Some (writes - w.made))
          spent = subst (λ o. Spends w.made o (left new)) e w.spent

-- ---- what is told

pub of_device : (f : FilesFault) → Fault (failure_of f) ≡ Fault Device → IsOfDevice (Store (store.Fault f))
of_device device.Device e = refl
of_device device.Memory e = absurd (cc e)

of_store : (e : StoreFault) → store_answer e ≡ Fault Device → IsOfDevice (Store e)
of_store (store.BadObject f) e = absurd (cc e)
of_store (store.Absent id) e = absurd (cc e)
of_store (store.Damaged id) e = absurd (cc e)
of_store (store.Fault f) e = of_device f e

of_ref : (e : RefFault) → ref_answer e ≡ Fault Device → IsOfDevice (Ref e)
of_ref (ref.Stale current) e = absurd (cc e)
of_ref (ref.Conflict other) e = absurd (cc e)
of_ref (ref.BadRefFile path) e = absurd (cc e)
of_ref ref.HeadLoop e = absurd (cc e)
of_ref (ref.Fault f) e = of_device f e

pub of_fault : (e : NodeFault) → fault_answer e ≡ Fault Device → IsOfDevice e
of_fault (Store e) is = of_store e is
of_fault (Ref e) is = of_ref e is
of_fault _ is = absurd (cc is)

pub made_tells : (r : Result ObjectId NodeFault) → made_answer r ≡ Fault Device → TellsDevice r
made_tells (Ok id) is = absurd (cc is)
made_tells (Err e) is = of_fault e is

pub done_tells : (r : Result (Unit {0}) NodeFault) → done_answer r ≡ Fault Device → TellsDevice r
done_tells (Ok u) is = absurd (cc is)
done_tells (Err e) is = of_fault e is
