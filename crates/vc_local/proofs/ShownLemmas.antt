-- What changes of files show.
use Rattle.std.proofs.Common.{◌≡◌, ℕ, true, false, cond, nat_eq, List, Option, Some, None, refl, sym, ap, ◌∙◌, subst, []}
use Rattle.std.specs.Prelude.{bytes_eq, is_some, codes, unwrap_or}
use Rattle.std.specs.List.{starts_with}
use Rattle.std.specs.FinMap as files
use Rattle.vc_files.specs.FileMap.{FileMap, SameOutside}
use Rattle.vc_files.proofs.FileMapLemmas.{get-put}
use Rattle.vc_object.specs.ObjectMap.{ObjectMap}
use Rattle.vc_object.specs.declared.id.ObjectId.{ObjectId}
use Rattle.vc_refs.specs.RefMap.{RefMap}
use Rattle.vc_refs.specs.Refs.{packed_path, refs, ChangesOnly}
use Rattle.vc_refs.specs.Head.{head_of, KeepsOutside, KeepsTheRest}
use Rattle.vc_refs.specs.declared.heads.Head.{Head}
use Rattle.vc_object.specs.Decoding.{StoredObject}
use Rattle.vc_push_rules.proofs.FrameLemmas.{objects-same, ref_no_object, refs-kept}
use Rattle.vc_object_map.specs.Store.{objects, object_path, with_object}
use Rattle.vc_index.specs.IndexMap.{IndexMap}
use Rattle.vc_lemmas.proofs.Texts.{split_from_starts}
use Rattle.vc_refs.specs.declared.heads.Head.TheVariants as heads
use Rattle.vc_refs.proofs.LayeredListingLemmas.{head_of-same}
use Rattle.vc_local.specs.IndexFile.{index_bytes, SpellsIndex}
use Rattle.vc_local.specs.Shown.{Shown, shown, with_objects_shown, with_refs_shown, with_head_shown, with_index_shown, main_head, opened, IsReady}

pub same_shown : (o p : ObjectMap) (r s : RefMap) (h k : Option Head) (t u : List ℕ) → o ≡ p → r ≡ s → h ≡ k → t ≡ u
    → ◌≡◌ {A = Shown} (record { objects = o; refs = r; head = h; index = t }) (record { objects = p; refs = s; head = k; index = u })
same_shown o p r s h k t u a b c d i = record { objects = a i; refs = b i; head = c i; index = d i }

-- objects are what stands at their paths
pub objects_same : (old new : FileMap) → ((name : List ℕ) → files.get new (object_path name) ≡ files.get old (object_path name)) → objects new ≡ objects old
objects_same old new same i id = objects-same old new id (same id.0) i

pub ref_no_index : (q : List ℕ) → starts_with nat_eq q (codes "refs/") ≡ true → bytes_eq q (codes "index") ≡ false
ref_no_index q h = ap (λ p. bytes_eq p (codes "index")) (split_from_starts q (codes "refs/") h)

-- a change in objects/ shows as other objects
pub shown_objects : (old new : FileMap) (o : ObjectMap) → SameOutside (codes "objects/") old new → objects new ≡ o → shown new ≡ with_objects_shown (shown old) o
shown_objects old new o outside is =
    same_shown (objects new) o (refs new) (refs old) (head_of new) (head_of old) (index_bytes new) (index_bytes old) is
    (refs-kept old new (λ q h. outside.at q (ref_no_object q h)) (outside.at packed_path refl))
    (head_of-same old new (outside.at (codes "HEAD") refl))
    (ap (λ found. unwrap_or found []) (outside.at (codes "index") refl))

-- a change of a ref shows as other refs
pub shown_refs : (old new : FileMap) (name : List ℕ) (r : RefMap) → KeepsTheRest name old new → refs new ≡ r → shown new ≡ with_refs_shown (shown old) r
shown_refs old new name r rest is =
    same_shown (objects new) (objects old) (refs new) r (head_of new) (head_of old) (index_bytes new) (index_bytes old)
    (objects_same old new (λ n. rest.outside.at (object_path n) refl refl)) is rest.outside.head
    (ap (λ found. unwrap_or found []) (rest.outside.at (codes "index") refl refl))

-- refs that are packed show as they did
pub shown_packed : (old new : FileMap) → KeepsOutside old new → refs new ≡ refs old → shown new ≡ shown old
shown_packed old new rest is =
    same_shown (objects new) (objects old) (refs new) (refs old) (head_of new) (head_of old) (index_bytes new) (index_bytes old)
    (objects_same old new (λ n. rest.at (object_path n) refl refl)) is rest.head
    (ap (λ found. unwrap_or found []) (rest.at (codes "index") refl refl))

-- a change of HEAD shows as another HEAD
pub shown_head : (old new : FileMap) (h : Head) → ChangesOnly (codes "HEAD") old new → refs new ≡ refs old → head_of new ≡ Some h → shown new ≡ with_head_shown (shown old) h
shown_head old new h only kept is =
    same_shown (objects new) (objects old) (refs new) (refs old) (head_of new) (Some h) (index_bytes new) (index_bytes old)
    (objects_same old new (λ n. only.at (object_path n) refl)) kept is
    (ap (λ found. unwrap_or found []) (only.at (codes "index") refl))

-- a change of the index shows as another text
pub shown_index : (old new : FileMap) (text : List ℕ) → new ≡ files.insert old (codes "index") text → shown new ≡ with_index_shown (shown old) text
shown_index old new text e =
    let put : (q : List ℕ) → files.get new q ≡ cond (bytes_eq q (codes "index")) (Some text) (files.get old q) = λ q. ap (λ (m : FileMap). files.get m q) e ∙ get-put old (codes "index") text q in
    same_shown (objects new) (objects old) (refs new) (refs old) (head_of new) (head_of old) (index_bytes new) text
    (objects_same old new (λ n. put (object_path n)))
    (refs-kept old new (λ q h. put q ∙ ap (λ b. cond b (Some text) (files.get old q)) (ref_no_index q h)) (put packed_path))
    (head_of-same old new (put (codes "HEAD")))
    (ap (λ found. unwrap_or found []) (put (codes "index")))

-- the same after a call that changed nothing
pub shown_index_from : (old mid new : FileMap) (t u : List ℕ) → mid ≡ old → new ≡ files.insert mid (codes "index") t → t ≡ u → shown new ≡ with_index_shown (shown old) u
shown_index_from old mid new t u same e is = shown_index old new u (e ∙ ap (λ (m : FileMap). files.insert m (codes "index") t) same ∙ ap (files.insert old (codes "index")) is)

-- and so leaves the objects
pub objects_index : (old mid new : FileMap) (text : List ℕ) → mid ≡ old → new ≡ files.insert mid (codes "index") text → objects new ≡ objects old
objects_index old mid new text same e = ap (λ (s : Shown). s.objects) (shown_index_from old mid new text text same e refl)

pub shown_refs_from : (old mid new : FileMap) (name : List ℕ) (change : RefMap → RefMap) → mid ≡ old → KeepsTheRest name mid new → refs new ≡ change (refs mid) → shown new ≡ with_refs_shown (shown old) (change (refs old))
shown_refs_from old mid new name change same rest is =
    subst (λ (m : FileMap). shown new ≡ with_refs_shown (shown m) (change (refs m))) same (shown_refs mid new name (change (refs mid)) rest is)

pub shown_head_from : (old mid new : FileMap) (h : Head) → mid ≡ old → ChangesOnly (codes "HEAD") mid new → refs new ≡ refs mid → head_of new ≡ Some h → shown new ≡ with_head_shown (shown old) h
shown_head_from old mid new h same only kept is = subst (λ (m : FileMap). shown new ≡ with_head_shown (shown m) h) same (shown_head mid new h only kept is)

pub shown_objects_from : (old mid new : FileMap) (id name : ObjectId) (object : StoredObject) → mid ≡ old → SameOutside (codes "objects/") mid new → objects new ≡ with_object (objects mid) id object → id ≡ name
    → shown new ≡ with_objects_shown (shown old) (with_object (objects old) name object)
shown_objects_from old mid new id name object same outside is e =
    subst (λ (m : FileMap). shown new ≡ with_objects_shown (shown m) (with_object (objects m) name object)) same
    (shown_objects mid new (with_object (objects mid) name object) outside (is ∙ ap (λ (n : ObjectId). with_object (objects mid) n object) e))

-- files that are opened, with a HEAD or without one
pub ready_there : (old new : FileMap) (h : Option Head) → h ≡ head_of old → is_some h ≡ true → new ≡ old → (m : IndexMap) × SpellsIndex old m → IsReady old new
ready_there old new None is there same index = cc
ready_there old new (Some x) is there same index = record {
  is = ap shown same ∙ ap (λ (g : Option Head). opened g (shown old)) is;
  same = λ head found. same;
  only = subst (λ (c : FileMap). ChangesOnly (codes "HEAD") old c) (sym same) (record { at = λ q other. refl });
  index = index;
}

-- the index that they spell is the one that they spelled
pub ready_spells : (old new : FileMap) (m : IndexMap) → IsReady old new → SpellsIndex old m → SpellsIndex new m
ready_spells old new m ready spelled = record { sound = spelled.sound; text = ap (λ (s : Shown). s.index) ready.is ∙ kept (head_of old) ∙ spelled.text }
  where
    kept : (h : Option Head) → (opened h (shown old)).index ≡ index_bytes old
    kept None = refl
    kept (Some head) = refl

pub ready_made : (old mid new : FileMap) (h : Option Head) (main : List ℕ) → h ≡ head_of old → is_some h ≡ false → mid ≡ old → main ≡ codes "refs/heads/main" → ChangesOnly (codes "HEAD") mid new → refs new ≡ refs mid → head_of new ≡ Some (heads.Branch main)
    → (m : IndexMap) × SpellsIndex old m → IsReady old new
ready_made old mid new (Some x) main is none same named only kept head index = cc
ready_made old mid new None main is none same named only kept head index = record {
  is = shown_head_from old mid new main_head same only kept (head ∙ ap (λ (n : List ℕ). Some (heads.Branch n)) named) ∙ ap (λ (g : Option Head). opened g (shown old)) is;
  same = λ head found. absurd (let bad : None ≡ Some head = is ∙ found in cc);
  only = subst (λ (c : FileMap). ChangesOnly (codes "HEAD") c new) same only;
  index = index;
}
