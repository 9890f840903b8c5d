use Rattle.std.proofs.Common.{◌≡◌, false, true, ◌∙◌, ap, subst, sym, rules}
use Rattle.std.proofs.Math.Path.{fun_ext}
use Rattle.clap.specs.Words.{subcommand_rows_of}
use Rattle.vc_arguments.specs.Requests.{IsReadAs}
use Rattle.vc_arguments.specs.Writers.{needs_store}
use Rattle.vc_cli.specs.Stores.{IsUnopened}
use Rattle.vc_commands.proofs.RunLemmas.{all_stay, ends_at}
use Rattle.vc_commands.specs.Performs.{Found, Performs}
use Rattle.vc_commands.specs.Running.{RunsFor}
use Rattle.vc_commands.specs.Running.RunsFor.{no_store, performed}
use Rattle.vc_commands.proofs.program.answer.Goals as goal

pub returns-in_err-look_above : goal.returns-in_err-look_above
returns-in_err-look_above g c =
    let read : IsReadAs (subcommand_rows_of c.args.matches.now) c.in-Some.request c.as_str.result.now c.deref.result.now c.deref-2.result.now c.deref-3.result.now = record {
      asked = search rules;
      selected = search rules;
      merged = search rules;
      pushed = search rules;
      added = search rules;
      folders = search rules;
    } in
    let why : (c.in-Some.request.is_named ≡ false) × (needs_store c.in-Some.request.task ≡ true) × IsUnopened c.in_err-look_above.field-0.0 = search rules in
    ends_at _ c.in_err-look_above.field-0.0 c.from_residual-in_err-look_above.result (search rules) (λ status told.
    no_store c.in-Some.request (record { terms = c.as_str.result; parents = c.deref.result; items = c.deref-2.result; paths = c.deref-3.result }) c.in_err-look_above.field-0.0 read
    why.0 why.1 why.2 (all_stay _ _) told)

pub returns : goal.returns
returns g c =
    let read : IsReadAs (subcommand_rows_of c.args.matches.now) c.in-Some.request c.as_str.result.now c.deref.result.now c.deref-2.result.now c.deref-3.result.now = record {
      asked = search rules;
      selected = search rules;
      merged = search rules;
      pushed = search rules;
      added = search rules;
      folders = search rules;
    } in
    let stay : g.S.Stores.content c.end.new.stores ≡ g.S.Stores.content c.perform-answer.new.stores = fun_ext c.end.ensures.same in
    performed c.in-Some.request (record { terms = c.as_str.result; parents = c.deref.result; items = c.deref-2.result; paths = c.deref-3.result }) c.perform-answer.result read
    (rw (stay, ← c.look_above.ensures.same) c.perform-answer.ensures) c.end.ensures.status
