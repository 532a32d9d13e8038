-- What an offered merge is answered, and what becomes of the board.
use Rattle.std.specs.Prelude.{◌≡◌, ◌+◌, ◌≤◌, List, [], ◌∷◌, ◌++◌, length, All}
use Rattle.sk_base.specs.declared.Name.{Name}
use Rattle.sk_base.specs.declared.Name.TheVariants.{Step}
use Rattle.sk_base.specs.declared.Graph.{Graph}
use Rattle.sk_base.specs.SoundGraph.{IsSoundGraph}
use Rattle.sk_family.specs.Body.{initial_bodies}
use Rattle.sk_family.specs.Clusters.{Clusters, initial_clusters, bodies, IsLive}
use Rattle.sk_family.specs.declared.Merge.{Merge}
use Rattle.sk_rules.specs.declared.Taken.{Taken as TakenMerge}
use Rattle.sk_rules.specs.Merges.{Holds, merged}
use Rattle.sk_family.specs.Merges.{names_of}
use Rattle.sk_rules.specs.Reach.{Reach}
use Rattle.sk_rules.specs.Taking.{IsTaken, Leads}
use Rattle.sk_offers.specs.declared.answer.Answer.{Answer}
use Rattle.sk_offers.specs.declared.answer.Answer.TheVariants.{Taken, Stale, Idle}

-- the graph, the family so far, and the merges that led to it
pub record Table : Type 0 where
  pub graph : Graph
  pub family : Clusters
  pub taken : List TakenMerge

-- the board at the start
abbrev pub starting_table : Graph → Table
starting_table g = record { graph = g; family = initial_clusters g; taken = [] }

-- what every board keeps to: its merges lead from the graph's start to its family
pub record IsSoundTable (t : Table) : Type 0 where
  pub graph : IsSoundGraph t.graph
  pub leads : Leads t.graph (initial_clusters t.graph) t.taken t.family
  pub reached : Reach t.graph (initial_bodies t.graph) (bodies t.family)
  pub room : t.family.next_step + length t.family.live ≤ length t.graph.edges + length t.graph.blocks + 1

-- the name isn't live, and those before it are
pub record IsFirstStale (f : Clusters) (names : List Name) (n : Name) : Type 0 where
  pub before : List Name
  pub after : List Name
  pub parts : names ≡ before ++ n ∷ after
  pub live_before : All (λ m. IsLive f m) before
  pub not_live : ¬ IsLive f n

-- stale with the first of the falling names that isn't live; idle where all are and the rule doesn't
-- hold; taken, as the next step, where the rule holds
abbrev pub IsAnswer : Graph → Clusters → Merge → Answer → Type 0
IsAnswer g f m (Stale n) = IsFirstStale f (names_of m) n
IsAnswer g f m Idle = All (λ n. IsLive f n) (names_of m) × ¬ Holds g f m
IsAnswer g f m (Taken n) = Holds g f m × (n ≡ Step f.next_step)

-- the merge is done and put down
pub record TakesDown (old : Table) (m : Merge) (new : Table) : Type 0 where
  pub put : TakenMerge
  pub merge : put.merge ≡ m
  pub is_taken : IsTaken old.graph old.family put
  pub table : new ≡ record { graph = old.graph; family = merged old.family m; taken = old.taken ++ put ∷ [] }

-- the board after the answer: only a merge that is taken changes it
abbrev pub Follows : Table → Merge → Answer → Table → Type 0
Follows old m (Taken n) new = TakesDown old m new
Follows old m (Stale n) new = new ≡ old
Follows old m Idle new = new ≡ old
