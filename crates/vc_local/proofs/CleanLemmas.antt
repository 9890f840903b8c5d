-- What changes of files make no file bad.
use Rattle.std.proofs.Common.{◌≡◌, ℕ, true, false, cond, inl, inr, List, Some, refl, sym, ap, ◌∙◌, subst}
use Rattle.std.specs.Prelude.{bytes_eq, codes}
use Rattle.std.specs.FinMap as files
use Rattle.vc_rules.proofs.SoundLemmas.{name_valid}
use Rattle.vc_files.specs.FileMap.{FileMap, SameOutside}
use Rattle.vc_files.proofs.FileMapLemmas.{get-put}
use Rattle.vc_index.specs.Damage.{KeepsDamage}
use Rattle.vc_index.proofs.DamageLemmas.{damage_same, damage_then, damage_put}
use Rattle.vc_lemmas.proofs.Texts.{split_from_starts}
use Rattle.vc_object.specs.Decoding.{stored_object}
use Rattle.vc_object.specs.Object.{object_name}
use Rattle.vc_object.specs.ObjectId.{is_id}
use Rattle.vc_object.specs.declared.id.ObjectId.{ObjectId}
use Rattle.vc_object.specs.declared.kind.Kind.{Kind}
use Rattle.vc_refs.specs.Head.{KeepsOutside, KeepsTheRest}
use Rattle.vc_refs.specs.Packing.{UnpacksOnly}
use Rattle.vc_refs.specs.RefMap.{IsInRefs}
use Rattle.vc_refs.specs.Refs.{IsBadRef, ChangesOnly, packed_at, packed_path, refs}
use Rattle.vc_refs.proofs.LayeredChangeLemmas.{unpacks_same}
use Rattle.vc_refs.proofs.LayeredLemmas.{bad-same, bad_place, packed_map-same}
use Rattle.vc_object_map.specs.Store.{objects, object_path, stored_in, with_object, with_file}
use Rattle.vc_local.specs.Clean.{IsClean, KeepsClean, KeepsCleanBut, PacksOnly, StaysClean}
use Rattle.vc_quarantine.proofs.CleanLemmas.{bad_no_object}
use Rattle.vc_local.proofs.ShownLemmas.{ref_no_index, shown_packed}

pub stays_same : (old new : FileMap) → new ≡ old → StaysClean old new
stays_same old new same = record { damage = damage_same old new same; refs = λ path bad. subst (λ (m : FileMap). IsBadRef m path) same bad }

pub stays_then : (old mid new : FileMap) → StaysClean old mid → StaysClean mid new → StaysClean old new
stays_then old mid new first second = record { damage = damage_then first.damage second.damage; refs = λ path bad. first.refs path (second.refs path bad) }

pub clean_same : {name : List ℕ} (old new : FileMap) → new ≡ old → KeepsCleanBut name old new
clean_same {name = name} old new same = record { stays = stays_same old new same; packed = unpacks_same name old new same }

pub clean_then : {name : List ℕ} (old mid new : FileMap) → KeepsCleanBut name old mid → KeepsCleanBut name mid new → KeepsCleanBut name old new
clean_then old mid new first second = record { stays = stays_then old mid new first.stays second.stays; packed = record { at = λ n other. second.packed.at n other ∙ first.packed.at n other } }

-- after a call that changed nothing, and before one
pub clean_from : {name : List ℕ} (old mid new : FileMap) → mid ≡ old → KeepsCleanBut name mid new → KeepsCleanBut name old new
clean_from old mid new same keeps = clean_then old mid new (clean_same old mid same) keeps

pub clean_on : {name : List ℕ} (old mid new : FileMap) → KeepsCleanBut name old mid → new ≡ mid → KeepsCleanBut name old new
clean_on old mid new keeps same = clean_then old mid new keeps (clean_same mid new same)

-- what was clean is so
pub still_clean : {name : List ℕ} (old new : FileMap) → KeepsCleanBut name old new → IsClean old → IsClean new
still_clean old new keeps clean = record { objects = λ id damaged. clean.objects id (keeps.stays.damage.before id damaged); refs = λ path bad. clean.refs path (keeps.stays.refs path bad) }

-- a file is bad by itself alone
damage_at : (old new : FileMap) → ((name : List ℕ) → files.get new (object_path name) ≡ files.get old (object_path name)) → KeepsDamage old new
damage_at old new same = record { before = λ id damaged. ap (stored_in id) (sym (same id.0)) ∙ damaged }

bad_no_head : (content : FileMap) (path : List ℕ) → IsBadRef content path → bytes_eq path (codes "HEAD") ≡ false
bad_no_head content path bad = elim (bad_place content path bad) [ inl inside ↦ ap (λ p. bytes_eq p (codes "HEAD")) (split_from_starts path (codes "refs/") inside) | inr packed ↦ ap (λ p. bytes_eq p (codes "HEAD")) packed ]

bad_no_index : (content : FileMap) (path : List ℕ) → IsBadRef content path → bytes_eq path (codes "index") ≡ false
bad_no_index content path bad = elim (bad_place content path bad) [ inl inside ↦ ref_no_index path inside | inr packed ↦ ap (λ p. bytes_eq p (codes "index")) packed ]

-- the packed file, where it is as it was
packed_file : {name : List ℕ} (old new : FileMap) → files.get new packed_path ≡ files.get old packed_path → UnpacksOnly name old new
packed_file old new same = record { at = λ n other. ap (λ m. packed_at m n) (packed_map-same old new same) }

-- objects
pub clean_objects : (old new : FileMap) → KeepsDamage old new → SameOutside (codes "objects/") old new → KeepsClean old new
clean_objects old new damage outside = record {
  stays = record { damage = damage; refs = λ path bad. bad-same old new path (outside.at path (bad_no_object new path bad)) bad };
  packed = packed_file old new (outside.at packed_path refl);
}

pub clean_put : (old new : FileMap) (kind : Kind) (body : List ℕ) (id : ObjectId) → id ≡ object_name kind body → new ≡ with_file old (stored_object kind body) → objects new ≡ with_object (objects old) id (stored_object kind body)
    → SameOutside (codes "objects/") old new → KeepsClean old new
clean_put old new kind body id name file put outside =
    clean_objects old new (damage_put old new kind body id name (subst (λ (n : ObjectId). is_id n ≡ true) (sym name) (name_valid kind body)) file put) outside

-- a ref
pub clean_ref : {but : List ℕ} (old new : FileMap) (name : List ℕ) → KeepsTheRest name old new → UnpacksOnly but old new → KeepsCleanBut but old new
clean_ref old new name rest packed = record { stays = record { damage = damage_at old new (λ n. rest.outside.at (object_path n) refl refl); refs = rest.outside.good }; packed = packed }

pub clean_set : (old new : FileMap) (name : List ℕ) → IsInRefs name → KeepsTheRest name old new → ChangesOnly name old new → KeepsClean old new
clean_set old new name inside rest only = clean_ref old new name rest (packed_file old new (only.at packed_path (ap (λ n. bytes_eq packed_path n) (split_from_starts name (codes "refs/") inside))))

-- refs that are packed
pub still_clean_packed : (old new : FileMap) → KeepsOutside old new → IsClean old → IsClean new
still_clean_packed old new rest clean = record {
  objects = λ id damaged. clean.objects id ((damage_at old new (λ n. rest.at (object_path n) refl refl)).before id damaged);
  refs = λ path bad. clean.refs path (rest.good path bad);
}

pub packs_only : (old new : FileMap) → KeepsOutside old new → refs new ≡ refs old → PacksOnly old new
packs_only old new rest is = record { outside = rest; same = shown_packed old new rest is; clean = λ clean. still_clean_packed old new rest clean }

-- HEAD and the index
pub clean_head : (old new : FileMap) → ChangesOnly (codes "HEAD") old new → KeepsClean old new
clean_head old new only = record {
  stays = record { damage = damage_at old new (λ n. only.at (object_path n) refl); refs = λ path bad. bad-same old new path (only.at path (bad_no_head new path bad)) bad };
  packed = packed_file old new (only.at packed_path refl);
}

pub clean_index : (old new : FileMap) (text : List ℕ) → new ≡ files.insert old (codes "index") text → KeepsClean old new
clean_index old new text e = record {
  stays = record {
    damage = damage_at old new (λ n. put (object_path n));
    refs = λ path bad. bad-same old new path (put path ∙ ap (λ b. cond b (Some text) (files.get old path)) (bad_no_index new path bad)) bad;
  };
  packed = packed_file old new (put packed_path);
}
  where
    put : (q : List ℕ) → files.get new q ≡ cond (bytes_eq q (codes "index")) (Some text) (files.get old q)
    put q = ap (λ (m : FileMap). files.get m q) e ∙ get-put old (codes "index") text q
