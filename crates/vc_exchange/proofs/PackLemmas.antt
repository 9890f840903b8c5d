-- What a pack brings, as objects of the machine, and what of it is stored.
use Rattle.std.proofs.Common.{arith, ◌≡◌, ◌⊎◌, inl, inr, ℕ, ◌+◌, ◌<◌, ◌≤◌, ◌^◌, Bool, true, false, cond, List, ◌∷◌, ◌++◌, length, map, Option, Some, None, Ok, refl, sym, ap, ◌∙◌, subst, true≢false, []}
use Rattle.std.specs.Prelude.{Contains, IsSome, codes, decimal, is_some, option_and_then, option_map}
use Rattle.std.specs.FinMap.{get}
use Rattle.std.specs.Option.{option_or}
use Rattle.std.proofs.lemmas.Fmt.{length-decimal-le}
use Rattle.std.proofs.lemmas.List.{length-append}
use Rattle.vc_fetch.proofs.Packs.{err_object}
use Rattle.vc_fetch.specs.Pack.{is_object}
use Rattle.vc_fetch.specs.PackObjects as fetch
use Rattle.vc_files.specs.FileMap.{FileMap, SameOutside}
use Rattle.vc_format.specs.Git.{bytes_of_id, id_of_bytes}
use Rattle.vc_object_map.specs.Graph as graph
use Rattle.vc_object_map.specs.Overlay.{with_carried}
use Rattle.vc_message.proofs.BodyFaults.{object_or_fault}
use Rattle.vc_model.specs.Object.{Id, Object, Objects, over, stored}
use Rattle.vc_model.specs.Reach.{IsClosed}
use Rattle.vc_model.specs.Repository.{Repository, SomeAdded, with_objects}
use Rattle.vc_object.proofs.Decoding.{Spells, decoded_some}
use Rattle.vc_object.proofs.OneFault.{no_body_fault}
use Rattle.vc_object.specs.Decoding.{StoredObject, decoded}
use Rattle.vc_object.specs.Header.{header}
use Rattle.vc_object.specs.Kind.{front}
use Rattle.vc_object.specs.Object.{IsObject, object_bytes}
use Rattle.vc_object.specs.ObjectMap.{ObjectMap, links_in, parents_in}
use Rattle.vc_object.specs.declared.id.ObjectId.{ObjectId}
use Rattle.vc_object.specs.declared.kind.Kind.{Kind}
use Rattle.vc_object.specs.declared.kind.Kind.TheVariants.{Blob, Tree, Commit, Tag}
use Rattle.vc_refs.specs.RefMap.{RefMap}
use Rattle.vc_rules.proofs.JoinLemmas.{joined, joined_all, joined_some, joined_where, joined_where_each}
use Rattle.vc_rules.proofs.ReachLemmas.{closed_from, closed_to, id_among}
use Rattle.vc_rules.proofs.SoundLemmas.{objects_sound}
use Rattle.vc_rules.specs.Git.{git, stored_of}
use Rattle.vc_rules.specs.OpenPushes.{AreBrought, HoldsContent}
use Rattle.vc_rules.proofs.OpenPushLaws.{some_stored}
use Rattle.vc_pkt.specs.Carried.{object_named}
use Rattle.vc_push_rules.proofs.FrameLemmas.{refs-of_objects}
use Rattle.vc_quarantine.proofs.KnownLemmas.{AreWhole-with_carried}
use Rattle.vc_push_rules.specs.Carrying.{objects_in}
use Rattle.vc_quarantine.specs.Known.{AreWhole}
use Rattle.vc_quarantine.specs.declared.known.Known.{Known}
use Rattle.vc_object_map.specs.Store.{objects}
use Rattle.vc_tracking.specs.Storing.{AreSomeStored, AreStored}

-- ---- what passes the test is an object: its bytes are those of one, and so its body is no longer
front_short : (k : Kind) → length (front k) ≤ 7
front_short Blob = omega arith
front_short Tree = omega arith
front_short Commit = omega arith
front_short Tag = omega arith

small_body : (k : Kind) (body : List ℕ) (q : StoredObject) → Spells (object_bytes k body) q.kind q.body → length body < 2 ^ 64
small_body k body q s =
    let d = decimal (length q.body) in
    let small : length q.body ≤ 16777216 = s.object.size in
    let a : length (header k (decimal (length body)) ++ body) ≡ length (header k (decimal (length body))) + length body = length-append (header k (decimal (length body))) body in
    let b : length (header q.kind d ++ q.body) ≡ length (header q.kind d) + length q.body = length-append (header q.kind d) q.body in
    let e : length (front q.kind ++ d ++ 0 ∷ []) ≡ length (front q.kind ++ d) + 1 = length-append (front q.kind ++ d) (0 ∷ []) in
    let f : length (front q.kind ++ d) ≡ length (front q.kind) + length d = length-append (front q.kind) d in
    let same : length (header k (decimal (length body)) ++ body) ≡ length (header q.kind d ++ q.body) = ap length s.is in
    let few : length d ≤ 20 = length-decimal-le 20 (length q.body) (omega arith) (omega (arith, small)) (omega (arith, small)) in
    let short : length (front q.kind) ≤ 7 = front_short q.kind in
    omega (arith, a, b, e, f, same, small, few, short)

object_sound : (o : StoredObject) → is_object o ≡ true → IsObject o.kind o.body
unfolding is_object
object_sound o passes = by (decoded (object_bytes o.kind o.body)) refl passes
  where
    whole : length o.body < 2 ^ 64 → IsObject o.kind o.body
    whole less = elim (object_or_fault o.kind o.body) as (λ _. IsObject o.kind o.body) [
      | inl is ↦ is
      | inr (e, at) ↦ absurd (true≢false (sym passes ∙ sym (err_object o.kind o.body less (λ is. no_body_fault o.kind o.body e is at))))
    ]

    by : (found : Option StoredObject) → decoded (object_bytes o.kind o.body) ≡ found → is_some found ≡ true → IsObject o.kind o.body
    by None e h = absurd (true≢false (sym h))
    by (Some q) e h = whole (small_body o.kind o.body q (decoded_some (object_bytes o.kind o.body) q e))

in_sound : (os : List StoredObject) (id : ObjectId) (q : StoredObject) → objects_in os id ≡ Some q → IsObject q.kind q.body
unfolding objects_in
in_sound os id q h = by (object_named id os) h
  where
    test : (b : Bool) (o : StoredObject) → is_object o ≡ b → cond b (Some o) None ≡ Some q → IsObject q.kind q.body
    test true o is h = let same : o ≡ q = cc in subst (λ (p : StoredObject). IsObject p.kind p.body) same (object_sound o is)
    test false o is h = absurd (cc h)

    by : (found : Option StoredObject) → option_and_then (λ o. cond (is_object o) (Some o) None) found ≡ Some q → IsObject q.kind q.body
    by None h = absurd (cc h)
    by (Some o) h = test (is_object o) o refl h

-- the two words for what a stream brings are one
pub brought_same : (os : List StoredObject) → fetch.objects_in os ≡ objects_in os
unfolding fetch.objects_in objects_in
brought_same os = refl

either : (a b : Option Object) → option_or (option_map stored_of a) (option_map stored_of b) ≡ option_map stored_of (option_or a b)
either None b = refl
either (Some x) b = refl

-- ---- over files
module _ (old : FileMap) (r : Repository) (held : HoldsContent old r) (brought : List StoredObject) (s : Objects) (are : AreBrought (Ok brought) s) where
  pub seen_is : (x : Id) → with_carried (objects old) (objects_in brought) (id_of_bytes x) ≡ option_map stored_of (over r.objects s x)
  unfolding with_carried
  seen_is x =
      ap (λ o. option_or o (objects_in brought (id_of_bytes x))) (held.objects_are x) ∙ ap (option_or (option_map stored_of (get r.objects x))) (sym (are x)) ∙ either (get r.objects x) (get s x)

  pub seen_sound : (id : ObjectId) (q : StoredObject) → with_carried (objects old) (objects_in brought) id ≡ Some q → IsObject q.kind q.body
  unfolding with_carried
  seen_sound id q h = by (objects old id) refl h
    where
      by : (found : Option StoredObject) → objects old id ≡ found → option_or found (objects_in brought id) ≡ Some q → IsObject q.kind q.body
      by None e h = in_sound brought id q h
      by (Some p) e h = objects_sound old id q (e ∙ h)

  pub seen_all : (x : Id) → with_carried (objects old) (objects_in brought) (id_of_bytes x) ≡ option_map stored_of (get (joined r.objects s) x)
  seen_all x = seen_is x ∙ ap (option_map stored_of) (sym ((joined_all r.objects s).each x))

  -- the layers give what all together give
  pub all_is : stored (joined r.objects s) ≡ over r.objects s
  all_is i x = (joined_all r.objects s).each x i

  -- what the wants reach is there, in the machine too
  pub wants_closed : (wants : List ObjectId) → graph.IsClosedUnder (links_in (with_carried (objects old) (objects_in brought))) wants → (x : Id) → Contains (map bytes_of_id wants) x → IsClosed git (over r.objects s) x
  wants_closed wants closed x among =
      closed_from (with_carried (objects old) (objects_in brought)) (over r.objects s) seen_is x (λ y reaches. closed y (record { root = id_of_bytes x; is_root = id_among wants x among; reaches = reaches }))

  pub want_open : (id missing : ObjectId) → graph.Reaches (links_in (with_carried (objects old) (objects_in brought))) id missing → links_in (with_carried (objects old) (objects_in brought)) missing ≡ None → ¬ IsClosed git (over r.objects s) id.0
  want_open id missing reaches absent closed =
      let there : IsSome (links_in (with_carried (objects old) (objects_in brought)) missing) = closed_to (with_carried (objects old) (objects_in brought)) (over r.objects s) seen_is id.0 closed missing reaches in
      true≢false (sym there ∙ ap is_some absent)

  -- all is stored
  module _ (new : FileMap) (outside : SameOutside (codes "objects/") old new) where
    pub stored_content : AreStored old new brought → HoldsContent new (with_objects r (joined r.objects s))
    stored_content st = record {
      objects_are = λ x. st.each (id_of_bytes x) ∙ seen_all x;
      refs_are = λ n. ap (λ (m : RefMap). m n) (refs-of_objects old new outside) ∙ held.refs_are n;
    }

    -- some of it is
    abbrev pub some_of : Objects
    some_of = joined_where r.objects s (λ x. is_some (objects new (id_of_bytes x)))

    pub some_added : SomeAdded r.objects s some_of
    some_added = joined_some r.objects s (λ x. is_some (objects new (id_of_bytes x)))

    pub some_content : AreSomeStored old new brought → HoldsContent new (with_objects r some_of)
    some_content st = record {
      objects_are = λ x.
          some_stored (objects new (id_of_bytes x)) (get r.objects x) (get s x) (by x (st.each (id_of_bytes x)))
          ∙ ap (option_map stored_of) (sym (joined_where_each r.objects s (λ x. is_some (objects new (id_of_bytes x))) x));
      refs_are = λ n. ap (λ (m : RefMap). m n) (refs-of_objects old new outside) ∙ held.refs_are n;
    }
      where
        by : (x : Id) → (objects new (id_of_bytes x) ≡ objects old (id_of_bytes x)) ⊎ (objects new (id_of_bytes x) ≡ with_carried (objects old) (objects_in brought) (id_of_bytes x))
            → (objects new (id_of_bytes x) ≡ option_map stored_of (get r.objects x)) ⊎ (objects new (id_of_bytes x) ≡ option_map stored_of (option_or (get r.objects x) (get s x)))
        by x (inl h) = inl (h ∙ held.objects_are x)
        by x (inr h) = inr (h ∙ seen_is x)

-- ---- the same over the files at each step
pub brought_closed : (old read : FileMap) (brought : List StoredObject) (ids : List ObjectId) → read ≡ old → graph.IsClosedUnder (links_in (with_carried (objects read) (fetch.objects_in brought))) ids
    → graph.IsClosedUnder (links_in (with_carried (objects old) (objects_in brought))) ids
brought_closed old read brought ids at closed =
    subst (λ (f : FileMap). graph.IsClosedUnder (links_in (with_carried (objects f) (objects_in brought))) ids) at
    (subst (λ (o : ObjectMap). graph.IsClosedUnder (links_in (with_carried (objects read) o)) ids) (brought_same brought) closed)

pub stored_outside : (old first mid : FileMap) → first ≡ old → SameOutside (codes "objects/") first mid → SameOutside (codes "objects/") old mid
stored_outside old first mid at outside = subst (λ (f : FileMap). SameOutside (codes "objects/") f mid) at outside

pub stored_since : (old first mid : FileMap) (brought : List StoredObject) → first ≡ old → AreStored first mid brought → AreStored old mid brought
stored_since old first mid brought at st = subst (λ (f : FileMap). AreStored f mid brought) at st

pub some_since : (old first mid : FileMap) (brought : List StoredObject) → first ≡ old → AreSomeStored first mid brought → AreSomeStored old mid brought
some_since old first mid brought at st = subst (λ (f : FileMap). AreSomeStored f mid brought) at st

-- what the judge met is whole where all is stored
pub stored_met : (old new : FileMap) (brought : List StoredObject) → AreStored old new brought → (ids : List ObjectId) → graph.IsClosedUnder (links_in (with_carried (objects old) (objects_in brought))) ids → graph.IsClosedUnder (links_in (objects new)) ids
stored_met old new brought st ids closed =
    let same : objects new ≡ with_carried (objects old) (objects_in brought) = λ i id. st.each id i in
    subst (λ (o : ObjectMap). graph.IsClosedUnder (links_in o) ids) (sym same) closed

-- and the histories that are known stay so
pub histories_met : (old read new : FileMap) (brought : List StoredObject) → read ≡ old → AreStored old new brought → (known : Known) → AreWhole (objects read) known → graph.IsClosedUnder (parents_in (objects new)) known.histories.keys
histories_met old read new brought at st known whole =
    let same : objects new ≡ with_carried (objects old) (objects_in brought) = λ i id. st.each id i in
    let there : AreWhole (objects old) known = subst (λ (f : FileMap). AreWhole (objects f) known) at whole in
    subst (λ (o : ObjectMap). graph.IsClosedUnder (parents_in o) known.histories.keys) (sym same) (AreWhole-with_carried (objects old) (objects_in brought) known there).histories

pub whole_after : (mid seen : FileMap) → seen ≡ mid → (known : Known) → graph.IsClosedUnder (links_in (objects mid)) known.objects.keys → graph.IsClosedUnder (parents_in (objects mid)) known.histories.keys → AreWhole (objects seen) known
whole_after mid seen same known closed histories = record {
  closed = subst (λ (f : FileMap). graph.IsClosedUnder (links_in (objects f)) known.objects.keys) (sym same) closed;
  histories = subst (λ (f : FileMap). graph.IsClosedUnder (parents_in (objects f)) known.histories.keys) (sym same) histories;
}
