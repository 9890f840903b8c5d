use Rattle.std.proofs.Common.{arith, rules, ◌≡◌, suc, ◌∷◌, List, ℕ, take, drop, ap, subst}
use Rattle.std.specs.FinMap as files
use Rattle.std.proofs.lemmas.List.{take_all}
use Rattle.vc_files.proofs.WearLemmas.{writes_both, writes_none, writes_told}
use Rattle.vc_refs.specs.Packing.{AreGone, LosesSome}
use Rattle.vc_refs.specs.SetAll.{names_in}
use Rattle.vc_refs.proofs.LayeredListingLemmas.{more_lost, none_gone, none_lost, one_gone, one_lost}
use Rattle.vc_refs.proofs.SetAllLemmas.{entries_more, entries_split}
use Rattle.vc_refs.proofs.layered.setting_all.remove_loose.Goals as goal

pub loop-entry-init : goal.loop-entry-init
loop-entry-init g c = record { lost = λ honest. none_lost _; gone = λ honest. none_gone _; wear = writes_none (λ never. never) }

pub returns-in_err-remove-clause-lost : goal.returns-in_err-remove-clause-lost
returns-in_err-remove-clause-lost g c = λ honest.
    let content = g.F.Files.content in
    let items = c.args.loose.now in
    let i = c.loop-entry.entry-index in
    let entry = c.entry-item.result in
    let split = entries_split items i entry c.loop-entry-test.true c.entry-item.is in
    let same : content c.remove.new.self ≡ content c.loop-entry.files = search (rules, c.in_err-remove.ensures.err honest) in
    rw (split, same) (more_lost (names_in (take i items)) (entry.0 ∷ names_in (drop (suc i) items)) (content c.args.files.now) (content c.loop-entry.files) (c.loop-entry.invariant.lost honest))

pub returns-in_err-remove-clause-wear : goal.returns-in_err-remove-clause-wear
returns-in_err-remove-clause-wear g c = writes_both c.loop-entry.invariant.wear (λ never. never) (writes_told c.in_err-remove.ensures.wear (search rules) (search rules))

pub loop-entry-preserved : goal.loop-entry-preserved
loop-entry-preserved g c =
    let content = g.F.Files.content in
    let items = c.args.loose.now in
    let i = c.loop-entry.entry-index in
    let entry = c.entry-item.result in
    let more = entries_more items i entry c.loop-entry-test.true c.entry-item.is in
    let made : g.F.Files.honest → content c.remove.new.self ≡ files.remove (content c.loop-entry.files) entry.0 = λ honest. rw c.as_str.ensures.text at (c.in_ok-remove.ensures.ok honest) in
    record {
      lost = λ honest. rw (more, made honest) (one_lost (names_in (take i items)) entry.0 (content c.args.files.now) (content c.loop-entry.files) (c.loop-entry.invariant.lost honest));
      gone = λ honest. rw (more, made honest) (one_gone (names_in (take i items)) entry.0 (content c.args.files.now) (content c.loop-entry.files) (c.loop-entry.invariant.gone honest));
      wear = writes_both c.loop-entry.invariant.wear (λ never. never) (writes_told c.in_ok-remove.ensures.wear (search rules) (λ never. absurd never));
    }

pub returns-clause-lost : goal.returns-clause-lost
returns-clause-lost g c = λ honest.
    let whole : names_in (take c.loop-entry.entry-index c.args.loose.now) ≡ names_in c.args.loose.now = ap names_in (take_all c.loop-entry.entry-index c.args.loose.now (omega (arith, c.loop-entry-test.false))) in
    subst (λ (l : List (List ℕ)). LosesSome l (g.F.Files.content c.args.files.now) (g.F.Files.content c.loop-entry.files)) whole (c.loop-entry.invariant.lost honest)

pub returns-clause-gone : goal.returns-clause-gone
returns-clause-gone g c = λ honest.
    let whole : names_in (take c.loop-entry.entry-index c.args.loose.now) ≡ names_in c.args.loose.now = ap names_in (take_all c.loop-entry.entry-index c.args.loose.now (omega (arith, c.loop-entry-test.false))) in
    subst (λ (l : List (List ℕ)). AreGone l (g.F.Files.content c.loop-entry.files)) whole (c.loop-entry.invariant.gone honest)

pub returns-clause-wear : goal.returns-clause-wear
returns-clause-wear g c = writes_told c.loop-entry.invariant.wear (λ never. absurd never) (search rules)
