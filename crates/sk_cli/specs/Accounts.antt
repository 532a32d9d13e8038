-- What is told of a sketch that is read, whatever its verdict.
use Rattle.std.specs.Prelude.{◌≡◌, ℕ, List}
use Rattle.sk_base.specs.declared.ConId.{ConId}
use Rattle.sk_base.specs.declared.Sketch.{Sketch}
use Rattle.sk_family.specs.Clusters.{Clusters, IsSound, bodies}
use Rattle.sk_lang.specs.Canonical.{canonical_2}
use Rattle.sk_graph.specs.SketchGraph.{graph_of}
use Rattle.sk_verdict.specs.declared.Judgement.{Judgement}
use Rattle.sk_plan.specs.Judged.{IsTheJudgement}
use Rattle.sk_report.specs.CheckReport.{check_report}
use Rattle.sk_spare.specs.Sparing.{AreSpares}
use Rattle.sk_spare.specs.SpareReport.{spare_report}
use Rattle.sk_why.specs.WhyReport.{IsWhyReport}
use Rattle.sk_close_by_angles.specs.WideReach.{IsWideNormal}
use Rattle.sk_close_by_angles.specs.DerivedText.{derived_text}
use Rattle.sk_request.specs.declared.Request.{Request}
use Rattle.sk_cli.specs.PartsReport.{IsPartsReport}
use Rattle.sk_cli.specs.ExcessReport.{IsExcessReport}
use Rattle.sk_request.specs.declared.Account.{Account}
use Rattle.sk_request.specs.declared.Account.TheVariants as accounts

-- the check report
abbrev pub IsCheckReport : Sketch → List ℕ → Type 0
IsCheckReport s text = (j : Judgement) × IsTheJudgement (graph_of s) j × (text ≡ check_report s j)

-- which constraints are spare
abbrev pub IsSpareReport : Sketch → List ℕ → Type 0
IsSpareReport s text = (spares : List ConId) × AreSpares (graph_of s) spares × (text ≡ spare_report s spares)

-- the clusters of a wide normal family
abbrev pub IsDerivedText : Sketch → List ℕ → Type 0
IsDerivedText s text = (f : Clusters) × IsSound f × IsWideNormal (graph_of s) (bodies f) × (text ≡ derived_text s f)

-- what an account writes of the sketch; `Shapes` and `Excesses` as the request says
abbrev pub IsAccount : Account → Request → Sketch → List ℕ → Type 0
IsAccount accounts.Judged request s text = IsCheckReport s text
IsAccount accounts.Migrated request s text = text ≡ canonical_2 s
IsAccount accounts.Spares request s text = IsSpareReport s text
IsAccount accounts.Derived request s text = IsDerivedText s text
IsAccount accounts.Shapes request s text = IsPartsReport request s text
IsAccount accounts.Excesses request s text = IsExcessReport request s text
IsAccount accounts.Reasons request s text = IsWhyReport s text
