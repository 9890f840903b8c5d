use Rattle.std.proofs.Common.{rules, ◌≡◌, ◌++◌, [], ◌∷◌, true, false, ℕ, List, Option, Some, None, sym, ap, ◌∙◌, subst, append-nil}
use Rattle.std.specs.Prelude.{option_map}
use Rattle.vc_object.proofs.Order.{All-push}
use Rattle.vc_object.specs.declared.id.ObjectId.{ObjectId}
use Rattle.vc_refs.specs.Packed.{PackedRef}
use Rattle.vc_refs.specs.Packing.{with_first, AreInRefs}
use Rattle.vc_refs.specs.RefMap.{IsInRefs}
use Rattle.vc_refs.specs.Refs.{is_taken}
use Rattle.vc_refs.specs.SetAll.{BlamesNext, MayChange}
use Rattle.vc_refs.proofs.SetAllLemmas.{loose_expected, loose_untaken}
use Rattle.vc_refs.proofs.layered.checking_all.add_checked.Goals as goal

pub returns-in_err-own-clause-refused : goal.returns-in_err-own-clause-refused
returns-in_err-own-clause-refused g c = λ honest read.
    let told : BlamesNext (g.F.Files.content c.args.files.now) c.args.earlier.now c.args.change.now c.in_err-own.field-0.0 = c.in_err-own.ensures.refused honest read in
    search (rules, told)

pub returns-then-not-own-clause-added : goal.returns-then-not-own-clause-added
returns-then-not-own-clause-added g c = λ honest read.
    let content = g.F.Files.content c.args.files.now in
    let items : List PackedRef = c.args.loose.now.items in
    let name = c.args.change.now.name in
    let said : c.in_ok-own.own ≡ false = search rules in
    let free : is_taken content name ≡ false = sym (c.in_ok-own.ensures.loose honest) ∙ said in
    sym (append-nil items) ∙ ap (λ (o : Option ObjectId). items ++ with_first (option_map (λ id. (name, id)) o) []) (sym (loose_untaken content name free))

pub returns-in_default-clause-added : goal.returns-in_default-clause-added
returns-in_default-clause-added g c = λ honest read.
    let content = g.F.Files.content c.args.files.now in
    let items : List PackedRef = c.args.loose.now.items in
    let name = c.args.change.now.name in
    let said : c.in_ok-own.own ≡ true = search rules in
    let taken : is_taken content name ≡ true = sym (c.in_ok-own.ensures.loose honest) ∙ said in
    let may : MayChange content c.args.earlier.now c.args.change.now = c.in_ok-own.ensures.allowed honest read in
    let none : c.args.change.now.expected ≡ None = search rules in
    sym (append-nil items) ∙ ap (λ (o : Option ObjectId). items ++ with_first (option_map (λ id. (name, id)) o) []) (sym (loose_expected content name may.alone.1.value.current taken ∙ none))

pub returns-clause-added : goal.returns-clause-added
returns-clause-added g c = λ honest read.
    let content = g.F.Files.content c.args.files.now in
    let items : List PackedRef = c.args.loose.now.items in
    let name = c.args.change.now.name in
    let said : c.in_ok-own.own ≡ true = search rules in
    let taken : is_taken content name ≡ true = sym (c.in_ok-own.ensures.loose honest) ∙ said in
    let may : MayChange content c.args.earlier.now c.args.change.now = c.in_ok-own.ensures.allowed honest read in
    let some : c.args.change.now.expected ≡ Some c.in-Some.id = search rules in
    let same : c.in_ok-name.name ≡ name = search rules in
    c.in_ok-push.ensures.items ∙ ap (λ (n : List ℕ). items ++ (n, c.in-Some.id) ∷ []) same
    ∙ ap (λ (o : Option ObjectId). items ++ with_first (option_map (λ id. (name, id)) o) []) (sym (loose_expected content name may.alone.1.value.current taken ∙ some))

pub returns-clause-inside : goal.returns-clause-inside
returns-clause-inside g c = λ all.
    let same : c.in_ok-name.name ≡ c.args.change.now.name = search rules in
    let here : IsInRefs c.in_ok-name.name = subst IsInRefs (sym same) c.requires in
    subst AreInRefs (sym c.in_ok-push.ensures.items) (All-push (λ (ref : PackedRef). IsInRefs ref.0) c.args.loose.now.items (c.in_ok-name.name, c.in-Some.id) all here)
