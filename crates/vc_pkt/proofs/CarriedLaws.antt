-- A map of carried objects as the list of them.
use Rattle.std.proofs.Common.{◌≡◌, Bool, true, false, cond, List, ◌∷◌, Option, Some, is_some, ◌||◌, refl, ap, sym, ◌∙◌, subst, true≢false, ◌++◌, []}
use Rattle.std.specs.Map.{lookup}
use Rattle.std.specs.BTreeMap.{insert_entry, is_at}
use Rattle.std.specs.Ordering.{is_eq, match_ordering}
use Rattle.std.specs.declared.cmp.Ordering.{Ordering}
use Rattle.std.specs.declared.cmp.Ordering.TheVariants.{Less, Equal, Greater}
use Rattle.vc_lemmas.proofs.Lists.{same_head, same_tail}
use Rattle.vc_object.specs.ObjectId.{id_cmp}
use Rattle.vc_object.specs.declared.id.ObjectId.{ObjectId}
use Rattle.vc_object.specs.Decoding.{StoredObject}
use Rattle.vc_pkt.specs.Carried.{stored_name, has_name, put_by_name, with_object, with_objects}
use Rattle.vc_pkt.specs.StreamObjectView.{stored, objects_of, AreNamed}
use Rattle.vc_pkt.specs.declared.carried.StreamObject.{StreamObject}

abbrev pub Entries : Type 0
Entries = List (ObjectId × StreamObject)

abbrev pub finds : ObjectId → Entries → Bool
finds id es = is_some (lookup (is_at (id_cmp id)) es)

found_step : (b c d : Bool) (o : Option StreamObject) (v : StreamObject) → b ≡ c → is_some o ≡ d → is_some (cond b (Some v) o) ≡ (c || d)
found_step true c d o v e f = ap (λ t. t || d) e
found_step false c d o v e f = f ∙ ap (λ t. t || d) e

-- a name is found in the map exactly if an object has it
found_has : (id : ObjectId) (es : Entries) → AreNamed es → finds id es ≡ has_name id (objects_of es)
found_has id [] n = refl
found_has id ((k, v) ∷ es) n =
    found_step (is_eq (id_cmp id k)) (is_eq (id_cmp id (stored_name (stored v)))) (has_name id (objects_of es)) (lookup (is_at (id_cmp id)) es) v
    (ap (λ t. is_eq (id_cmp id t)) (same_head _ _ _ _ n)) (found_has id es (same_tail _ _ _ _ n))

-- one entry more, at a name that is absent
pub record Put (es : Entries) (id : ObjectId) (v : StreamObject) : Type 0 where
  pub named : AreNamed (insert_entry id_cmp es id v)
  pub objects : objects_of (insert_entry id_cmp es id v) ≡ put_by_name (stored v) (objects_of es)

put_step : (o : Ordering) (k id : ObjectId) (u v : StreamObject) (es : Entries) → o ≡ id_cmp id k → id ≡ stored_name (stored v) → AreNamed ((k, u) ∷ es) → is_some (cond (is_eq o) (Some u) (lookup (is_at (id_cmp id)) es)) ≡ false
    → (finds id es ≡ false → Put es id v)
    → AreNamed (match_ordering o ((id, v) ∷ (k, u) ∷ es) ((k, v) ∷ es) ((k, u) ∷ insert_entry id_cmp es id v))
    × (objects_of (match_ordering o ((id, v) ∷ (k, u) ∷ es) ((k, v) ∷ es) ((k, u) ∷ insert_entry id_cmp es id v))
    ≡ match_ordering o (stored v ∷ stored u ∷ objects_of es) (stored u ∷ objects_of es) (stored u ∷ put_by_name (stored v) (objects_of es)))
put_step Less k id u v es is e n none ih = (cc, refl)
put_step Equal k id u v es is e n none ih = absurd (true≢false none)
put_step Greater k id u v es is e n none ih =
    let p = ih none in
    let q = p.named in
    (cc, ap (λ t. stored u ∷ t) p.objects)

pub put : (es : Entries) (id : ObjectId) (v : StreamObject) → id ≡ stored_name (stored v) → AreNamed es → finds id es ≡ false → Put es id v
put [] id v e n none = record { named = ap (λ t. t ∷ []) e; objects = refl }
put ((k, u) ∷ es) id v e n none =
    let p = put_step (id_cmp id k) k id u v es refl e n none (λ none'. put es id v e (same_tail _ _ _ _ n) none') in
    record { named = p.0; objects = p.1 ∙ ap (λ t. match_ordering (id_cmp t k) (stored v ∷ stored u ∷ objects_of es) (stored u ∷ objects_of es) (stored u ∷ put_by_name (stored v) (objects_of es))) e ∙ ap (λ t. match_ordering (id_cmp (stored_name (stored v)) t) (stored v ∷ stored u ∷ objects_of es) (stored u ∷ objects_of es) (stored u ∷ put_by_name (stored v) (objects_of es))) (same_head _ _ _ _ n) }

pub added : (es : Entries) (id : ObjectId) (v : StreamObject) → id ≡ stored_name (stored v) → AreNamed es → finds id es ≡ false → objects_of (insert_entry id_cmp es id v) ≡ with_object (stored v) (objects_of es)
unfolding with_object
added es id v e n none =
    let absent : has_name (stored_name (stored v)) (objects_of es) ≡ false = ap (λ t. has_name t (objects_of es)) (sym e) ∙ sym (found_has id es n) ∙ none in
    (put es id v e n none).objects ∙ sym (ap (λ b. cond b (objects_of es) (put_by_name (stored v) (objects_of es))) absent)

pub present : (es : Entries) (id : ObjectId) (v : StreamObject) → id ≡ stored_name (stored v) → AreNamed es → finds id es ≡ true → objects_of es ≡ with_object (stored v) (objects_of es)
unfolding with_object
present es id v e n there =
    let has : has_name (stored_name (stored v)) (objects_of es) ≡ true = ap (λ t. has_name t (objects_of es)) (sym e) ∙ sym (found_has id es n) ∙ there in
    sym (ap (λ b. cond b (objects_of es) (put_by_name (stored v) (objects_of es))) has)

pub stays_named : (es new : Entries) (id : ObjectId) (v : StreamObject) → id ≡ stored_name (stored v) → AreNamed es → finds id es ≡ false → new ≡ insert_entry id_cmp es id v → AreNamed new
stays_named es new id v e n none is = subst AreNamed (sym is) (put es id v e n none).named

-- one more object, put behind the others
pub with_objects-push : (set os : List StoredObject) (o : StoredObject) → with_objects set (os ++ o ∷ []) ≡ with_object o (with_objects set os)
with_objects-push set [] o = refl
with_objects-push set (p ∷ ps) o = with_objects-push (with_object p set) ps o
