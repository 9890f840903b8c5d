-- What the machine's rules say of expressions: what one denotes at a repository.
use Rattle.std.specs.Prelude.{ℕ, List, Result, Ok, Err, option_map}
use Rattle.std.specs.FinMap.{get}
use Rattle.vc_format.specs.Git.{id_of_bytes}
use Rattle.vc_model.specs.Object.{Id}
use Rattle.vc_model.specs.Repository.{Repository, Entry}
use Rattle.vc_model.specs.Shared.{head_value}
use Rattle.vc_object.specs.declared.id.ObjectId.{ObjectId}
use Rattle.vc_rev.specs.Source.{Names}
use Rattle.vc_rev.specs.Value.{HasValue, whole_source}
use Rattle.vc_rules.specs.Git.{layer_objects}

-- the refs, HEAD and the index of a repository, as expressions are over them
abbrev pub names_at : Repository → Names
names_at r = record {
  ref = λ n. option_map id_of_bytes (get r.refs n);
  head = option_map id_of_bytes (head_value r);
  index = λ p. option_map (λ (e : Entry). id_of_bytes e.id) (get r.index p);
}

abbrev pub id_found : Result Id ℕ → Result ObjectId ℕ
id_found (Ok x) = Ok (id_of_bytes x)
id_found (Err n) = Err n

-- the value of the text at the repository, or the number that refuses it
abbrev pub DenotesAt : Repository → List ℕ → Result Id ℕ → Type 0
DenotesAt r text v = HasValue (whole_source (names_at r) (layer_objects r.objects)) text (id_found v)
