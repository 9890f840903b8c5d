use Rattle.std.proofs.Common.{rules, ◌≡◌, ◌++◌, ◌∷◌, map, sym, ap, ◌∙◌, refl, subst, []}
use Rattle.std.proofs.lemmas.List.{map-append}
use Rattle.vc_index.specs.Reading.{AreInOrder, IsReadTo, index_with}
use Rattle.vc_index.proofs.CollectLemmas.{index_more, order_more}
use Rattle.vc_index.proofs.MapLemmas.{entries-empty}
use Rattle.vc_index.proofs.ReadLemmas.{ReadSoFar, all_before, read_nothing, read_more, read_less, read_none, read_bad}
use Rattle.vc_index.proofs.reading.read_text.Goals as goal
use Rattle.vc_lemmas.proofs.Texts.{not_nothing}

pub loop-last-init : goal.loop-last-init
loop-last-init c = (
  read_nothing c.args.bytes.now (map (λ f. f.now) c.new-fronts.result.items) (index_with c.new-files.result.items) (ap (map (λ f. f.now)) c.new-fronts.ensures.items) (ap (λ l. index_with l) c.new-files.ensures.items),
  subst AreInOrder (sym c.new-files.ensures.items) entries-empty,
)

pub returns-in_default-clause-refused : goal.returns-in_default-clause-refused
returns-in_default-clause-refused c =
    read_none _ _ _ _ _ c.loop-last.invariant.0 (not_nothing c.loop-last.rest.now (search rules)) (sym c.in_default.ensures.value)

pub returns-then-not-may_follow-clause-refused : goal.returns-then-not-may_follow-clause-refused
returns-then-not-may_follow-clause-refused c =
    let m = index_with c.loop-last.files.items in
    let to : IsReadTo m c.loop-last.last.now (map (λ f. f.now) c.deref.result.now) = subst (λ l. IsReadTo m c.loop-last.last.now (map (λ f. f.now) l)) (sym c.deref.ensures.value) c.loop-last.invariant.0.to in
    read_bad _ _ _ _ _ c.loop-last.invariant.0 c.in-Some.path.now c.in-Some.entry c.in-Some.after.now (sym c.in-Some.ensures.value)
    (λ may. let told = (c.if-not-may_follow.ensures m to).1 may in absurd (cc told))

pub loop-last-smaller : goal.loop-last-smaller
loop-last-smaller c =
    read_less _ _ _ _ _ c.loop-last.invariant.0 c.in-Some.path.now c.in-Some.entry c.in-Some.after.now (sym c.in-Some.ensures.value)

pub loop-last-preserved : goal.loop-last-preserved
loop-last-preserved c =
    let m = index_with c.loop-last.files.items in
    let to : IsReadTo m c.loop-last.last.now (map (λ f. f.now) c.deref.result.now) = subst (λ l. IsReadTo m c.loop-last.last.now (map (λ f. f.now) l)) (sym c.deref.ensures.value) c.loop-last.invariant.0.to in
    let follows = (c.if-not-may_follow.ensures m to).0 refl in
    let key : c.in_ok-to_vec.field-0.items ≡ c.in-Some.path.now = search rules in
    let before = all_before m c.loop-last.last.now (map (λ f. f.now) c.loop-last.fronts.items) c.loop-last.invariant.0.to c.in-Some.path.now follows.0 in
    let files : c.push.new.self.items ≡ c.loop-last.files.items ++ (c.in_ok-to_vec.field-0, c.in-Some.entry) ∷ [] = search rules in
    let fronts : map (λ f. f.now) c.push-in-loop-last.new.self.items ≡ map (λ f. f.now) c.keep_fronts.new.fronts.items ++ c.in-Some.path.now ∷ [] =
    ap (map (λ f. f.now)) c.in_ok-push-2.ensures.items ∙ map-append (λ f. f.now) c.keep_fronts.new.fronts.items (c.in-Some.path ∷ []) in
    let more = read_more _ _ _ _ _ c.loop-last.invariant.0 c.in-Some.path.now c.in-Some.entry c.in-Some.after.now (sym c.in-Some.ensures.value) c.in-Some.ensures.valid follows.0 follows.1 follows.2
    (map (λ f. f.now) c.keep_fronts.new.fronts.items) (map (λ f. f.now) c.push-in-loop-last.new.self.items) (c.keep_fronts.ensures.some, c.keep_fronts.ensures.all) fronts in
    let index = index_more c.loop-last.files.items c.in_ok-to_vec.field-0 c.in-Some.path.now c.in-Some.entry key c.loop-last.invariant.1 before in
    let order = order_more c.loop-last.files.items c.in_ok-to_vec.field-0 c.in-Some.path.now c.in-Some.entry key c.loop-last.invariant.1 before in (
      subst (λ n. ReadSoFar c.args.bytes.now c.in-Some.after.now c.in-Some.path.now (map (λ f. f.now) c.push-in-loop-last.new.self.items) n) (sym (ap (λ l. index_with l) files ∙ index)) more,
      subst AreInOrder (sym files) order,
    )
