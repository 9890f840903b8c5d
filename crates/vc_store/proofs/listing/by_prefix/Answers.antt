use Rattle.std.proofs.Common.{rules, ◌≡◌, ◌∙◌, sym, [], None, Some}
use Rattle.std.specs.Prelude.{option_map, filter_map}
use Rattle.vc_files.specs.FileMap.{paths_under}
use Rattle.vc_object_map.specs.Store.{name_in, prefix_path, lower_case}
use Rattle.vc_store.proofs.NamesLemmas.{other_text-names, prefix-names, digits-sorted, digits-exact}
use Rattle.vc_store.proofs.listing.by_prefix.Goals as goal

pub returns-in_default-clause-lists : goal.returns-in_default-clause-lists
returns-in_default-clause-lists g c =
    let content = g.F.Files.content c.args.files.now in
    let digits = c.args.digits.now in
    let none : option_map prefix_path (lower_case digits) ≡ None = search rules in
    let no_names : c.new.result.items ≡ [] = search rules in
    let listed = no_names ∙ sym (other_text-names content digits none) in
    record {
      names = λ honest. listed;
      sorted = λ honest. rw listed (digits-sorted _ digits);
      exact = λ honest id. rw listed (digits-exact _ digits id);
    }

pub returns-clause-lists : goal.returns-clause-lists
returns-clause-lists g c =
    let content = g.F.Files.content c.args.files.now in
    let digits = c.args.digits.now in
    let some : option_map prefix_path (lower_case digits) ≡ Some c.as_str.result.now = search rules in
    let under : g.F.Files.honest → c.in_ok-names.names.items ≡ filter_map name_in (paths_under content c.as_str.result.now) = λ honest. search (rules, c.in_ok-names.ensures.names honest) in
    let listed = λ (honest : g.F.Files.honest). under honest ∙ sym (prefix-names content digits c.as_str.result.now some) in
    record {
      names = listed;
      sorted = λ honest. rw (listed honest) (digits-sorted _ digits);
      exact = λ honest id. rw (listed honest) (digits-exact _ digits id);
    }
