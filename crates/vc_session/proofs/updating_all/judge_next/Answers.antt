use Rattle.std.proofs.Common.{rules, ◌≡◌, ◌&&◌, ℕ, true, false, [], List, is_some, sym, ap, ◌∙◌, subst}
use Rattle.std.specs.FinMap as names
use Rattle.std.specs.List.{list_any}
use Rattle.std.proofs.lemmas.Bool.{and_parts}
use Rattle.vc_push.specs.PushView.{command_of, commands_of}
use Rattle.vc_push_rules.specs.Verdict.{expected, is_branch, is_tag}
use Rattle.vc_refs.specs.Obstacle.{IsFirstPackedInTheWay, IsFreeOfPacked}
use Rattle.vc_session.proofs.TurnLemmas.{from_none, from_some, is_in_the_way, is_named_before, is_other, is_passed, is_there, named_before, names_it, unnamed_branch}
use Rattle.vc_session.specs.Together.{named_after}
use Rattle.vc_session.proofs.updating_all.judge_next.Goals as goal

pub returns-then-is_standing : goal.returns-then-is_standing
returns-then-is_standing c =
    let packed = c.args.refs.now in
    let standing : (is_tag c.args.name.now && is_some (names.get packed c.args.name.now)) ≡ true = search rules in
    is_there packed (named_after [] (commands_of c.args.earlier.now)) (command_of c.args.command.now) (subst (λ (n : List ℕ). (is_tag n && is_some (names.get packed n)) ≡ true) c.requires standing)

pub returns-then-is_some : goal.returns-then-is_some
returns-then-is_some c =
    let packed = c.args.refs.now in
    let name = c.args.name.now in
    let standing : (is_tag name && is_some (names.get packed name)) ≡ false = search rules in
    let no_tag = subst (λ (n : List ℕ). (is_tag n && is_some (names.get packed n)) ≡ false) c.requires standing in
    let some : is_some c.packed_in_the_way.result ≡ true = search rules in
    let found = from_some c.packed_in_the_way.result (IsFreeOfPacked packed name) (λ other. IsFirstPackedInTheWay packed name other.now) some c.packed_in_the_way.ensures in
    is_in_the_way packed (named_after [] (commands_of c.args.earlier.now)) (command_of c.args.command.now) no_tag found.0.now (subst (λ (n : List ℕ). IsFirstPackedInTheWay packed n found.0.now) c.requires found.1)

pub returns-then-is_named_branch : goal.returns-then-is_named_branch
returns-then-is_named_branch c =
    let packed = c.args.refs.now in
    let name = c.args.name.now in
    let own = c.args.command.now.name.items in
    let earlier = c.args.earlier.now in
    let standing : (is_tag name && is_some (names.get packed name)) ≡ false = search rules in
    let no_tag = subst (λ (n : List ℕ). (is_tag n && is_some (names.get packed n)) ≡ false) c.requires standing in
    let none : is_some c.packed_in_the_way.result ≡ false = search rules in
    let free = subst (λ (n : List ℕ). IsFreeOfPacked packed n) c.requires
    (from_none c.packed_in_the_way.result (IsFreeOfPacked packed name) (λ other. IsFirstPackedInTheWay packed name other.now) none c.packed_in_the_way.ensures) in
    let told : (is_branch name && list_any (names_it name) earlier) ≡ true = search rules in
    let parts = and_parts (is_branch own) (list_any (names_it own) earlier) (subst (λ (n : List ℕ). (is_branch n && list_any (names_it n) earlier) ≡ true) c.requires told) in
    is_named_before packed (named_after [] (commands_of earlier)) (command_of c.args.command.now) no_tag free parts.0 (named_before earlier [] own parts.1)

pub returns-then-ne : goal.returns-then-ne
returns-then-ne c =
    let packed = c.args.refs.now in
    let name = c.args.name.now in
    let standing : (is_tag name && is_some (names.get packed name)) ≡ false = search rules in
    let no_tag = subst (λ (n : List ℕ). (is_tag n && is_some (names.get packed n)) ≡ false) c.requires standing in
    let none : is_some c.packed_in_the_way.result ≡ false = search rules in
    let free = subst (λ (n : List ℕ). IsFreeOfPacked packed n) c.requires
    (from_none c.packed_in_the_way.result (IsFreeOfPacked packed name) (λ other. IsFirstPackedInTheWay packed name other.now) none c.packed_in_the_way.ensures) in
    let other : names.get packed name ≡ expected c.args.command.now.old → ⊥ = search rules in
    is_other packed (named_after [] (commands_of c.args.earlier.now)) (command_of c.args.command.now) no_tag free (λ current. other (ap (names.get packed) c.requires ∙ current))

pub returns : goal.returns
returns c =
    let packed = c.args.refs.now in
    let name = c.args.name.now in
    let own = c.args.command.now.name.items in
    let earlier = c.args.earlier.now in
    let standing : (is_tag name && is_some (names.get packed name)) ≡ false = search rules in
    let no_tag = subst (λ (n : List ℕ). (is_tag n && is_some (names.get packed n)) ≡ false) c.requires standing in
    let none : is_some c.packed_in_the_way.result ≡ false = search rules in
    let free = subst (λ (n : List ℕ). IsFreeOfPacked packed n) c.requires
    (from_none c.packed_in_the_way.result (IsFreeOfPacked packed name) (λ other. IsFirstPackedInTheWay packed name other.now) none c.packed_in_the_way.ensures) in
    let told : (is_branch name && list_any (names_it name) earlier) ≡ false = search rules in
    let unnamed = subst (λ (n : List ℕ). (is_branch n && list_any (names_it n) earlier) ≡ false) c.requires told in
    let current : names.get packed name ≡ expected c.args.command.now.old = search rules in
    is_passed packed (named_after [] (commands_of earlier)) (command_of c.args.command.now) no_tag free (sym (ap (names.get packed) c.requires) ∙ current) (unnamed_branch earlier own unnamed)
