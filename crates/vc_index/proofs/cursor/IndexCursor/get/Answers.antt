use Rattle.std.proofs.Common.{rules, ◌≡◌, ap, sym, ◌∙◌, subst}
use Rattle.std.specs.Cmp.Lexicographic.{slice_cmp}
use Rattle.std.specs.FinMap as paths
use Rattle.std.specs.Ordering.{nat_cmp}
use Rattle.std.specs.declared.cmp.Ordering.TheVariants.{Less, Equal, Greater}
use Rattle.vc_index.specs.Cursor.{IsCursor}
use Rattle.vc_index.proofs.CursorLemmas.{cursor_end, cursor_here, cursor_on, cursor_past}
use Rattle.vc_index.proofs.cursor.IndexCursor.get.Goals as goal

pub loop-self-preserved : goal.loop-self-preserved
loop-self-preserved c =
    let s = c.loop-self.self-inside in
    let i = c.loop-self.invariant in
    let key : c.deref-self-inside.result.now ≡ c.in-Some.key.now.items = search rules in
    let less : slice_cmp nat_cmp c.in-Some.key.now.items c.args.path.now ≡ Less = search rules in
    let on = cursor_on s.index.now s.last.now c.args.path.now s.rest i.1 c.in-Some.key c.in-Some.entry s.here (search rules) i.0 c.next-self-inside.result c.next-self-inside.new.self (search rules) in (
      subst (λ k. IsCursor s.index.now k c.next-self-inside.result c.next-self-inside.new.self) (sym key) on,
      ap (λ k. slice_cmp nat_cmp k c.args.path.now) key ∙ less,
      i.2,
    )

pub returns-in-Equal-clause-found : goal.returns-in-Equal-clause-found
returns-in-Equal-clause-found c =
    let s = c.loop-self.self-inside in
    let i = c.loop-self.invariant in
    let equal : slice_cmp nat_cmp c.in-Some.key.now.items c.args.path.now ≡ Equal = search rules in
    cursor_here s.index.now s.last.now c.args.path.now s.rest i.1 c.in-Some.key c.in-Some.entry s.here (search rules) i.0 equal ∙ ap (λ m. paths.get m c.args.path.now) i.2

pub returns-in-Greater-clause-found : goal.returns-in-Greater-clause-found
returns-in-Greater-clause-found c =
    let s = c.loop-self.self-inside in
    let i = c.loop-self.invariant in
    let greater : slice_cmp nat_cmp c.in-Some.key.now.items c.args.path.now ≡ Greater = search rules in
    cursor_past s.index.now s.last.now c.args.path.now s.rest i.1 c.in-Some.key c.in-Some.entry s.here (search rules) i.0 greater ∙ ap (λ m. paths.get m c.args.path.now) i.2

pub returns-clause-found : goal.returns-clause-found
returns-clause-found c =
    let s = c.loop-self.self-inside in
    let i = c.loop-self.invariant in
    cursor_end s.index.now s.last.now c.args.path.now s.rest i.1 s.here (search rules) i.0 ∙ ap (λ m. paths.get m c.args.path.now) i.2
