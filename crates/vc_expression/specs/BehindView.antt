-- How a term begins, and what stands behind a base, without where it lies in memory.
use Rattle.vc_expression.specs.SetReading as spec
use Rattle.vc_expression.specs.declared.suffix.Prefix.{Prefix}
use Rattle.vc_expression.specs.declared.suffix.Prefix.TheVariants as fronts
use Rattle.vc_expression.specs.declared.suffix.Suffix.{Suffix}
use Rattle.vc_expression.specs.declared.suffix.Suffix.TheVariants.{Parents, Only, Since, Dots, Nothing, Fault}

abbrev pub front_view : Prefix → spec.Front
front_view (fronts.Excludes rest) = spec.Excludes rest.now
front_view (fronts.Dots dots rest) = spec.Dotted dots rest.now
front_view fronts.Base = spec.Based

abbrev pub behind_view : Suffix → spec.Behind
behind_view (Parents rest) = spec.AllParents rest.now
behind_view (Only rest) = spec.Itself rest.now
behind_view (Since n rest) = spec.SinceParent n rest.now
behind_view (Dots dots rest) = spec.UpTo dots rest.now
behind_view Nothing = spec.Nothing
behind_view Fault = spec.Wrong
