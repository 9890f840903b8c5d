use Rattle.vc_expression.specs.Seen as spec
use Rattle.vc_expression.specs.declared.step.Reading.{Reading}
use Rattle.vc_expression.specs.declared.step.Reading.TheVariants.{Found, Other, Fault}

-- a reading without where its rest lies in memory
abbrev pub seen : Reading → spec.Seen
seen (Found step rest) = spec.Found step rest.now
seen Other = spec.Other
seen Fault = spec.Fault
