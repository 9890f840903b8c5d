-- A body that was read up to one byte more than the limit: for `hash-object`.
use Rattle.std.proofs.Common.{◌≡◌, ℕ, ◌+◌, ◌≤◌, List, [], ◌++◌, take, length, None, Some, ◌∙◌, inl, inr, sym, ap, subst, refl, arith}
use Rattle.std.specs.Prelude.{Option, Result, Ok, Err, IfErr, IfSome, OnErr, OnOk}
use Rattle.std.specs.Option.{option_map}
use Rattle.std.specs.Io.Take.{take_limit, take_inner, take_remaining}
use Rattle.std.specs.declared.io.traits.Take.{Take}
use Rattle.std.proofs.lemmas.List.{take_all, length-take}
use Rattle.std.proofs.KnownBytes.{Keeps-refl}
use Rattle.vc_files.specs.FileMap.{FileMap}
use Rattle.vc_object.specs.Object.{object_name, IsObject}
use Rattle.vc_object.specs.ObjectFault.{BodyFault, GrammarFault}
use Rattle.vc_object.specs.ObjectFault.BodyFault.{too_large, no_grammar}
use Rattle.vc_object.specs.declared.id.ObjectId.{ObjectId}
use Rattle.vc_object.specs.declared.kind.Kind.{Kind}
use Rattle.vc_object.specs.declared.fault.ObjectFault.{ObjectFault}
use Rattle.vc_object_map.specs.StoreFault.{IsOfPut}
use Rattle.vc_object_map.specs.declared.faults.StoreFault.{StoreFault}
use Rattle.vc_object_map.specs.declared.faults.StoreFault.TheVariants.{BadObject, Absent, Damaged, Fault}
use Rattle.vc_cli.proofs.PrintLemmas.{front_none}
use Rattle.vc_cli.specs.Failure.{IsFault}
use Rattle.vc_cli.specs.Printed.{AppendsFront, id_line}
use Rattle.vc_reading.specs.HashObject.{IsOfBody, IsOfStored, LeavesHashed, LeavesStored, StoresBody}
use Rattle.vc_reading.specs.HashObject.LeavesStored.{unsettled, unstored as not_stored}
use Rattle.vc_reading.specs.HashObject.LeavesHashed.{unstored, untold}
use Rattle.vc_cli.specs.declared.failure.Failure.{Failure}
use Rattle.vc_cli.specs.declared.failure.Failure.TheVariants.{Object, Store}
use Rattle.vc_cli.specs.declared.failure.Failure.TheVariants as failed

-- a front that has not all of n + 1 elements is the whole list
take-short : (n : ℕ) (xs : List ℕ) → length (take (n + 1) xs) ≤ n → take (n + 1) xs ≡ xs
take-short n xs h = take_all (n + 1) xs (omega (arith, length-take (n + 1) xs))

-- what was read is a front of what was known
front_of_known : (n : ℕ) (known : Option (List ℕ)) (body items : List ℕ) → body ≡ [] → IfSome (option_map (take n) known) (λ xs. items ≡ body ++ xs) → IfSome known (λ xs. items ≡ take n xs)
front_of_known n None body items empty h = tt
front_of_known n (Some xs) body items empty h = h ∙ ap (λ b. b ++ take n xs) empty

-- what a bounded reader gave is a front of what the reader below it held
pub front_of_take : {R : Type 0} (remaining : R → Option (List ℕ)) (t : Take R) (input : R) (limit : ℕ) (body items : List ℕ) → take_limit t ≡ limit → take_inner t ≡ input → body ≡ [] → IfSome (take_remaining remaining t) (λ xs. items ≡ body ++ xs) → IfSome (remaining input) (λ xs. items ≡ take limit xs)
front_of_take remaining t input limit body items of_limit of_inner empty h =
    let front = front_of_known (take_limit t) (remaining (take_inner t)) body items empty h in
    subst (λ i. IfSome (remaining i) (λ xs. items ≡ take limit xs)) of_inner
    (subst (λ n. IfSome (remaining (take_inner t)) (λ xs. items ≡ take n xs)) of_limit front)

-- a fault of the front is one of the body
fault_of_front : (kind : Kind) (body : List ℕ) (e : ObjectFault) → BodyFault kind (take 16777217 body) e → BodyFault kind body e
fault_of_front kind body e (too_large more is) = too_large (omega (arith, length-take 16777217 body, more)) is
fault_of_front kind body e (no_grammar small fault) =
    let whole : take 16777217 body ≡ body = take-short 16777216 body small in
    no_grammar (subst (λ xs. length xs ≤ 16777216) whole small) (subst (λ xs. GrammarFault kind xs e) whole fault)

-- a front that is refused tells why the body is
pub refused_front : (kind : Kind) (known : Option (List ℕ)) (items : List ℕ) (e : ObjectFault) → IfSome known (λ xs. items ≡ take 16777217 xs) → BodyFault kind items e → IfSome known (λ body. IsOfBody kind body (Object e))
refused_front kind None items e front fault = tt
refused_front kind (Some body) items e front fault = fault_of_front kind body e (subst (λ xs. BodyFault kind xs e) front fault)

-- a front that is an object's body is the body
pub object_of_front : (kind : Kind) (known : Option (List ℕ)) (items : List ℕ) → IfSome known (λ xs. items ≡ take 16777217 xs) → IsObject kind items → IfSome known (λ body. items ≡ body)
object_of_front kind None items front object = tt
object_of_front kind (Some body) items front object =
    let small : length (take 16777217 body) ≤ 16777216 = subst (λ xs. length xs ≤ 16777216) front object.size in
    subst (λ xs. xs ≡ body) (sym front) (take-short 16777216 body small)

-- what became of the line of a front's name became of the line of the body's name, where the front is the body
pub line_of_front : (Told : List ℕ → Type 0) (kind : Kind) (known : Option (List ℕ)) (items : List ℕ) (id : ObjectId) → IfSome known (λ body. items ≡ body) → id ≡ object_name kind items → Told (id_line id)
    → IfSome known (λ body. Told (id_line (object_name kind body)))
line_of_front Told kind None items id whole named line = tt
line_of_front Told kind (Some body) items id whole named line = subst (λ b. Told (id_line (object_name kind b))) whole (subst (λ i. Told (id_line i)) named line)

-- where nothing was printed, a front of the line was
pub none_of_line : (kind : Kind) (known : Option (List ℕ)) (old : Option (List ℕ)) → IfSome known (λ body. AppendsFront old old (id_line (object_name kind body)))
none_of_line kind None old = tt
none_of_line kind (Some body) old = front_none old (id_line (object_name kind body))

-- an object's front is the object
pub legal_front : (kind : Kind) (known : Option (List ℕ)) (items : List ℕ) → IfSome known (λ body. items ≡ body) → IsObject kind items → IfSome known (λ body. IsObject kind body)
legal_front kind None items whole object = tt
legal_front kind (Some body) items whole object = subst (λ b. IsObject kind b) whole object

-- what holds outright holds of an `Ok`
pub OnOk-of : {T E A : Type 0} (r : Result T E) → A → OnOk r A
OnOk-of (Ok x) a = a
OnOk-of (Err e) a = tt

-- what holds of a front that is an object's body holds of the body
pub of_front : (P : List ℕ → Type 0) (kind : Kind) (known : Option (List ℕ)) (items : List ℕ) → IfSome known (λ xs. items ≡ take 16777217 xs) → IsObject kind items → P items → IfSome known P
of_front P kind None items front object holds = tt
of_front P kind (Some body) items front object holds = subst P (object_of_front kind (Some body) items front object) holds

put_of_body : (kind : Kind) (body : List ℕ) (fault : StoreFault) → (IsObject kind (take 16777217 body) → take 16777217 body ≡ body) → IsOfPut kind (take 16777217 body) fault → IsOfPut kind body fault
put_of_body kind body (BadObject e) whole h = fault_of_front kind body e h
put_of_body kind body (Absent id) whole h = absurd h
put_of_body kind body (Damaged id) whole h = subst (λ xs. IsOfPut kind xs (Damaged id)) (whole h.0) h
put_of_body kind body (Fault f) whole h = subst (λ xs. IsObject kind xs) (whole h) h

-- why a front isn't stored is why the body isn't
pub refused_put : (kind : Kind) (known : Option (List ℕ)) (items : List ℕ) (fault : StoreFault) → IfSome known (λ xs. items ≡ take 16777217 xs) → IsOfPut kind items fault → IfSome known (λ body. IsOfStored kind body (Store fault))
refused_put kind None items fault front h = tt
refused_put kind (Some body) items fault front h = put_of_body kind body fault (λ object. object_of_front kind (Some body) (take 16777217 body) refl object) (subst (λ xs. IsOfPut kind xs fault) front h)

-- what an `Ok` says of a front that is an object's body it says of the body
pub ok_of_front : {T : Type 0} (P : List ℕ → Type 0) (kind : Kind) (known : Option (List ℕ)) (items : List ℕ) (r : Result T Failure) → IfSome known (λ xs. items ≡ take 16777217 xs) → OnOk r (IsObject kind items) → OnOk r (P items)
    → OnOk r (IfSome known P)
ok_of_front P kind known items (Ok x) front object holds = of_front P kind known items front object holds
ok_of_front P kind known items (Err e) front object holds = tt

pub legal_of_front : {T : Type 0} (kind : Kind) (known : Option (List ℕ)) (items : List ℕ) (r : Result T Failure) → IfSome known (λ xs. items ≡ take 16777217 xs) → OnOk r (IsObject kind items) → OnOk r (IfSome known (λ body. IsObject kind body))
legal_of_front kind known items r front object = ok_of_front (λ body. IsObject kind body) kind known items r front object object

stored_of_front : (kind : Kind) (body items : List ℕ) (e : Failure) → items ≡ take 16777217 body → IsOfStored kind items e → IsOfStored kind body e
stored_of_front kind body items (Store fault) front told = refused_put kind (Some body) items fault front told
stored_of_front kind body items (failed.Fault fault) front told = tt
stored_of_front kind body items _ front told = told

left_of_body : (old new : FileMap) (kind : Kind) (body items : List ℕ) (before after : Option (List ℕ)) (e : Failure) → items ≡ take 16777217 body → LeavesHashed old kind items new before after e → LeavesHashed old kind body new before after e
left_of_body old new kind body items before after e front (unstored (inl told) same none) = unstored (inl told) same none
left_of_body old new kind body items before after e front (unstored (inr told) same none) = unstored (inr (stored_of_front kind body items e front told)) same none
left_of_body old new kind body items before after e front (untold fault object stores told) =
    subst (λ xs. LeavesHashed old kind xs new before after e) (object_of_front kind (Some body) items front object) (untold fault object stores told)

-- what an error leaves of a front it leaves of the body
pub left_of_front : {T : Type 0} (old new : FileMap) (before after : Option (List ℕ)) (kind : Kind) (known : Option (List ℕ)) (items : List ℕ) (r : Result T Failure) → IfSome known (λ xs. items ≡ take 16777217 xs)
    → IfErr r (LeavesHashed old kind items new before after) → IfErr r (λ e. IfSome known (λ body. LeavesHashed old kind body new before after e))
left_of_front old new before after kind known items (Ok x) front left = tt
left_of_front old new before after kind None items (Err e) front left = tt
left_of_front old new before after kind (Some body) items (Err e) front left = left_of_body old new kind body items before after e front left

-- ---- what is left of a store

-- the object is stored, and its name was not printed to its end
pub left_unprinted : {T : Type 0} (old new : FileMap) (kind : Kind) (body : List ℕ) (before after : Option (List ℕ)) (id : ObjectId) (r : Result T Failure) → id ≡ object_name kind body → IsObject kind body → StoresBody old kind body new
    → IfErr r IsFault → OnErr r (AppendsFront before after (id_line id)) → IfErr r (LeavesHashed old kind body new before after)
left_unprinted old new kind body before after id (Ok x) name object stores fault front = tt
left_unprinted old new kind body before after id (Err e) name object stores fault front = untold fault object stores (subst (λ i. AppendsFront before after (id_line i)) name front)

-- it isn't stored, or not seen to last
pub left_unstored : (old new : FileMap) (kind : Kind) (body : List ℕ) (before : Option (List ℕ)) (e : Failure) → LeavesStored old kind body new e → LeavesHashed old kind body new before before e
left_unstored old new kind body before e (not_stored told same) = unstored (inr told) same (Keeps-refl before)
left_unstored old new kind body before e (unsettled fault object stores) = untold fault object stores (front_none before (id_line (object_name kind body)))
