-- A written object stream spells the objects that were written.
use Rattle.std.proofs.Common.{◌≡◌, ℕ, ◌^◌, ◌<◌, ◌≤◌, Bool, true, false, cond, List, ◌∷◌, ◌++◌, length, map, refl, ap, sym, ◌∙◌, subst, arith, append_assoc, length-append, []}
use Rattle.std.specs.Prelude.{decimal}
use Rattle.std.specs.List.{AllByRecursion, flat_map}
use Rattle.std.specs.Ordering.{is_eq, match_ordering, ordering_reverse}
use Rattle.std.specs.declared.cmp.Ordering.TheVariants.{Less, Greater}
use Rattle.std.proofs.lemmas.List.{append-nil}
use Rattle.std.proofs.lemmas.List.Concat.{flat_map-append}
use Rattle.std.proofs.lemmas.Fmt.{length-decimal-le}
use Rattle.std.proofs.lemmas.Map.Keys.{sorted_head, sorted_tail}
use Rattle.vc_lemmas.proofs.Lists.{all_append}
use Rattle.vc_object.specs.Kind.{word}
use Rattle.vc_object.specs.ObjectId.{id_cmp, IsSortedByName}
use Rattle.vc_object.specs.Decoding.{StoredObject, stored_object}
use Rattle.vc_object.specs.declared.kind.Kind.{Kind}
use Rattle.vc_object.specs.declared.kind.Kind.TheVariants.{Blob, Tree, Commit, Tag}
use Rattle.vc_object.proofs.IdLemmas.{id_cmp_total}
use Rattle.vc_object.proofs.Objects.{number_decimal, decimal_size}
use Rattle.vc_pkt.specs.Line.{flush, spelling, IsWritable}
use Rattle.vc_pkt.specs.Message.{IsSpelledBy}
use Rattle.vc_pkt.specs.Carried.{stored_name, has_name, put_by_name, with_object, with_objects}
use Rattle.vc_pkt.specs.ObjectStream.{IsObjectLines, IsStream, SpellsSet, SpellsObjects, is_any}
use Rattle.vc_pkt.specs.Written.{data_lines, object_text, object_lines, stream_lines, IsWrittenSet}
use Rattle.vc_pkt.proofs.TextLaws.{with_lf}
use Rattle.vc_pkt.specs.StreamObjectView.{stored}
use Rattle.vc_pkt.specs.declared.carried.StreamObject.{StreamObject}
use Rattle.vc_pkt.proofs.Bodies.{written_data, data_fits, grown_twice}
use Rattle.vc_pkt.proofs.Written.{lines_written}

-- ---- for the loop that writes
pub stream_bytes : (o : StoredObject) (os : List StoredObject) → flat_map spelling (stream_lines (o ∷ os)) ≡ flat_map spelling (object_lines o) ++ flat_map spelling (stream_lines os)
stream_bytes o os =
    ap (flat_map spelling) (append_assoc (object_lines o) (flat_map object_lines os) (flush ∷ [])) ∙ flat_map-append spelling (object_lines o) (stream_lines os)

pub one_written : (old out now all : List ℕ) (o p : StoredObject) (os : List StoredObject) → out ++ flat_map spelling (stream_lines (o ∷ os)) ≡ old ++ all → p ≡ o → now ≡ out ++ flat_map spelling (object_lines p) → now ++ flat_map spelling (stream_lines os) ≡ old ++ all
one_written old out now all o p os left same e =
    ap (λ t. t ++ flat_map spelling (stream_lines os)) e ∙ append_assoc out (flat_map spelling (object_lines p)) (flat_map spelling (stream_lines os))
    ∙ ap (λ q. out ++ (flat_map spelling (object_lines q) ++ flat_map spelling (stream_lines os))) same
    ∙ ap (λ t. out ++ t) (sym (stream_bytes o os)) ∙ left

-- the bytes of a stream of objects as they lie in memory
abbrev pub stream_of : List StreamObject → List ℕ
stream_of objects = flat_map spelling (stream_lines (map stored objects))

-- what is left to write
pub record IsLeft (old out : List ℕ) (all rest : List StreamObject) : Type 0 where
  pub left : out ++ stream_of rest ≡ old ++ stream_of all
  pub grown : (more : List ℕ) × (out ≡ old ++ more)

pub all_left : (old : List ℕ) (all rest : List StreamObject) → rest ≡ all → IsLeft old old all rest
all_left old all rest e = record { left = ap (λ os. old ++ stream_of os) e; grown = ([], sym (append-nil old)) }

pub one_less_left : (old out now : List ℕ) (all rest after : List StreamObject) (object : StreamObject) (body : List ℕ) → IsLeft old out all rest → rest ≡ object ∷ after → body ≡ object.body.items
    → now ≡ out ++ flat_map spelling (object_lines (stored_object object.kind body)) → IsLeft old now all after
one_less_left old out now all rest after object body l e b w = record {
  left = one_written old out now (stream_of all) (stored object) (stored_object object.kind body) (map stored after) (ap (λ os. out ++ stream_of os) (sym e) ∙ l.left) (ap (stored_object object.kind) b) w;
  grown = grown_twice old out now l.grown (_, w);
}

pub none_left : (old out now : List ℕ) (all rest : List StreamObject) → IsLeft old out all rest → rest ≡ [] → now ≡ out ++ spelling flush → now ≡ old ++ stream_of all
none_left old out now all rest l e w = w ∙ ap (λ os. out ++ stream_of os) (sym e) ∙ l.left

word_short : (kind : Kind) → length (word kind) ≤ 6
word_short Blob = omega arith
word_short Tree = omega arith
word_short Commit = omega arith
word_short Tag = omega arith

pub object_text_short : (o : StoredObject) → length o.body < 2 ^ 64 → length (object_text o) ≤ 31
object_text_short o h =
    let digits = length-decimal-le 20 (length o.body) (omega arith) (omega arith) h in
    let w = word_short o.kind in
    let sum = length-append (word o.kind) (32 ∷ decimal (length o.body)) in
    omega arith

-- ---- the lines of one object
object_spelled : (o : StoredObject) → length o.body ≤ 16777216 → IsObjectLines o (object_lines o)
object_spelled o small = record {
  first = object_text o ++ 10 ∷ [];
  body = data_lines o.body;
  begins = record { digits = decimal (length o.body); decimal = decimal_size (length o.body) (omega arith); states = sym (number_decimal (length o.body) (omega arith)); spelled = with_lf (object_text o) };
  small = small;
  pieces = written_data o.body;
  whole = refl;
}

pub stream_spelled : (T : StoredObject → Bool) (os : List StoredObject) → AllByRecursion (λ o. length o.body ≤ 16777216) os → AllByRecursion (λ o. T o ≡ true) os → IsStream T os (stream_lines os)
stream_spelled T [] small taken = refl
stream_spelled T (o ∷ os) small taken =
    (object_lines o, stream_lines os, object_spelled o small.0, taken.0, stream_spelled T os small.1 taken.1, append_assoc (object_lines o) (flat_map object_lines os) (flush ∷ []))

all_any : (os : List StoredObject) → AllByRecursion (λ o. is_any o ≡ true) os
all_any [] = tt
all_any (o ∷ os) = (refl, all_any os)

-- ---- objects in order of name stay in this order
abbrev IsBelow : StoredObject → StoredObject → Type 0
IsBelow p o = id_cmp (stored_name p) (stored_name o) ≡ Less

abbrev AreBelow : List StoredObject → List StoredObject → Type 0
AreBelow ps os = AllByRecursion (λ p. AllByRecursion (λ o. IsBelow p o) os) ps

above : (p o : StoredObject) → IsBelow p o → id_cmp (stored_name o) (stored_name p) ≡ Greater
above p o h = id_cmp_total.antisymm (stored_name o) (stored_name p) ∙ ap ordering_reverse h

none_has : (o : StoredObject) (os ps : List StoredObject) → AreBelow ps (o ∷ os) → has_name (stored_name o) ps ≡ false
none_has o os [] h = refl
none_has o os (p ∷ ps) h = let a = ap is_eq (above p o h.0.0) in let r = none_has o os ps h.1 in cc

put_last : (o : StoredObject) (os ps : List StoredObject) → AreBelow ps (o ∷ os) → put_by_name o ps ≡ ps ++ o ∷ []
put_last o os [] h = refl
put_last o os (p ∷ ps) h =
    ap (λ c. match_ordering c (o ∷ p ∷ ps) (p ∷ ps) (p ∷ put_by_name o ps)) (above p o h.0.0) ∙ ap (λ t. p ∷ t) (put_last o os ps h.1)

with_last : (o : StoredObject) (os ps : List StoredObject) → AreBelow ps (o ∷ os) → with_object o ps ≡ ps ++ o ∷ []
unfolding with_object
with_last o os ps h = ap (λ b. cond b ps (put_by_name o ps)) (none_has o os ps h) ∙ put_last o os ps h

below_map : (o : StoredObject) (os : List StoredObject) → AllByRecursion (λ y. id_cmp (stored_name o) y ≡ Less) (map stored_name os) → AllByRecursion (λ p. IsBelow o p) os
below_map o [] h = tt
below_map o (p ∷ os) h = (h.0, below_map o os h.1)

below_more : (o : StoredObject) (os ps : List StoredObject) → AreBelow ps (o ∷ os) → AllByRecursion (λ p. IsBelow o p) os → AreBelow (ps ++ o ∷ []) os
below_more o os [] h t = (t, tt)
below_more o os (p ∷ ps) h t = (h.0.1, below_more o os ps h.1 t)

all_last : (os ps : List StoredObject) → AreBelow ps os → IsSortedByName (map stored_name os) → with_objects ps os ≡ ps ++ os
all_last [] ps h s = sym (append-nil ps)
all_last (o ∷ os) ps h s =
    ap (λ t. with_objects t os) (with_last o os ps h)
    ∙ all_last os (ps ++ o ∷ []) (below_more o os ps h (below_map o os (sorted_head id_cmp (stored_name o) (map stored_name os) s))) (sorted_tail id_cmp (stored_name o) (map stored_name os) s)
    ∙ append_assoc ps (o ∷ []) os

pub written_set : (T : StoredObject → Bool) (os : List StoredObject) → IsWrittenSet os → AllByRecursion (λ o. T o ≡ true) os → SpellsSet T os (stream_lines os)
written_set T os w taken = record { objects = os; stream = stream_spelled T os w.small taken; once = sym (all_last os [] tt w.sorted) }

-- ---- the bytes

pub stream_fits : (os : List StoredObject) → AllByRecursion (λ o. length o.body ≤ 16777216) os → AllByRecursion IsWritable (stream_lines os)
stream_fits [] small = (tt, tt)
stream_fits (o ∷ os) small =
    let short = object_text_short o (omega (arith, small.0)) in
    let len = length-append (object_text o) (10 ∷ []) in (
      (omega arith, omega arith),
      subst (AllByRecursion IsWritable) (sym (append_assoc (data_lines o.body) (flat_map object_lines os) (flush ∷ [])))
          (all_append IsWritable (data_lines o.body) (stream_lines os) (data_fits o.body) (stream_fits os small.1)),
    )

pub written_objects : (os : List StoredObject) → IsWrittenSet os → IsSpelledBy SpellsObjects os (flat_map spelling (stream_lines os))
written_objects os w = (stream_lines os, lines_written (stream_lines os) (stream_fits os w.small), written_set is_any os w (all_any os))
