use Rattle.std.proofs.Common.{rules, ◌≡◌, sym, ◌∙◌}
use Rattle.std.specs.FinMap as files
use Rattle.std.specs.Option.{option_or}
use Rattle.vc_refs.proofs.LayeredLemmas.{value_over, own_taken, good_packed_file}
use Rattle.vc_refs.proofs.layered.getting.expect_value.Goals as goal

pub returns-then-ne-clause-refused : goal.returns-then-ne-clause-refused
returns-then-ne-clause-refused g c = λ honest read.
    let content = g.F.Files.content c.args.files.now in
    let value = value_over content c.args.name.now c.args.packed.now c.in_ok-loose.loose read (c.in_ok-loose.ensures.found honest) (c.in_ok-loose.ensures.good honest) in
    let current : c.or-current.result ≡ option_or c.in_ok-loose.loose (files.get c.args.packed.now c.args.name.now) = search rules in
    record { packed = good_packed_file content c.args.packed.now read; is = value ∙ sym current; other = search rules; good = c.in_ok-loose.ensures.good honest }

pub returns-clause-loose : goal.returns-clause-loose
returns-clause-loose g c = λ honest.
    c.is_some.ensures ∙ own_taken (g.F.Files.content c.args.files.now) c.args.name.now c.in_ok-loose.loose (c.in_ok-loose.ensures.found honest) (c.in_ok-loose.ensures.good honest)

pub returns-clause-allowed : goal.returns-clause-allowed
returns-clause-allowed g c = λ honest read.
    let content = g.F.Files.content c.args.files.now in
    let value = value_over content c.args.name.now c.args.packed.now c.in_ok-loose.loose read (c.in_ok-loose.ensures.found honest) (c.in_ok-loose.ensures.good honest) in
    let current : c.or-current.result ≡ option_or c.in_ok-loose.loose (files.get c.args.packed.now c.args.name.now) = search rules in
    record { packed = good_packed_file content c.args.packed.now read; current = value ∙ sym current ∙ search rules; good = c.in_ok-loose.ensures.good honest }
