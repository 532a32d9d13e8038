-- What a board keeps to while merges are taken.
use Rattle.std.proofs.Common.{◌≡◌, ◌<◌, List, [], ◌∷◌, ◌++◌, length, refl, ap, sym, subst, arith}
use Rattle.std.proofs.lemmas.List.{length-map}
use Rattle.sk_base.specs.declared.Graph.{Graph}
use Rattle.sk_base.specs.SoundGraph.{IsSoundGraph}
use Rattle.sk_rules.proofs.Keeping.{reach_then}
use Rattle.sk_family.specs.Body.{starts, initial_bodies}
use Rattle.sk_family.specs.Clusters.{Clusters, bodies, initial_clusters, start_of}
use Rattle.sk_family.proofs.GraphStarts.{starts_few}
use Rattle.sk_family.proofs.Soundness.{starting_bodies}
use Rattle.sk_rules.specs.declared.Taken.{Taken}
use Rattle.sk_rules.specs.Merges.{merged}
use Rattle.sk_rules.specs.Reach.{Reach, Step, stays}
use Rattle.sk_rules.specs.Taking.{IsTaken, Leads}
use Rattle.sk_close_by_order.proofs.Runs.{leads_more}
use Rattle.sk_offers.specs.Offering.{Table, IsSoundTable}

-- the board at the start
pub sound_start : (g : Graph) → IsSoundGraph g → (f : Clusters) → f ≡ initial_clusters g → (ts : List Taken) → ts ≡ [] → IsSoundTable (record { graph = g; family = f; taken = ts })
sound_start g sound f f_is ts ts_is =
    subst (λ (e : Clusters). IsSoundTable (record { graph = g; family = e; taken = ts })) (sym f_is)
    (subst (λ (us : List Taken). IsSoundTable (record { graph = g; family = initial_clusters g; taken = us })) (sym ts_is) (record {
      graph = sound;
      leads = refl;
      reached = subst (λ bs. Reach g (initial_bodies g) bs) (sym (starting_bodies (starts g))) stays;
      room = (let as_many = length-map (starts g) start_of in let few = starts_few g sound.edges_rise in omega (arith, as_many, few));
    }))

-- the board after one more merge
pub sound_after : (t : Table) → IsSoundTable t → (put : Taken) → IsTaken t.graph t.family put
    → (f : Clusters) → f ≡ merged t.family put.merge → Step t.graph (bodies t.family) (bodies f) → length f.live < length t.family.live
    → (ts : List Taken) → ts ≡ t.taken ++ put ∷ [] → IsSoundTable (record { graph = t.graph; family = f; taken = ts })
sound_after t sound put is_taken f f_is step fewer ts ts_is = record {
  graph = sound.graph;
  leads = subst (λ (us : List Taken). Leads t.graph (initial_clusters t.graph) us f) (sym ts_is)
      (subst (λ (e : Clusters). Leads t.graph (initial_clusters t.graph) (t.taken ++ put ∷ []) e) (sym f_is)
      (leads_more t.graph (initial_clusters t.graph) t.family t.taken put sound.leads is_taken));
  reached = reach_then t.graph (initial_bodies t.graph) (bodies t.family) (bodies f) sound.reached step;
  room = (let next = ap (λ (e : Clusters). e.next_step) f_is in omega (arith, next, fewer, sound.room));
}

-- merges that lead on from where others led to
pub leads_on : (g : Graph) (f mid end : Clusters) (ts us : List Taken) → Leads g f ts mid → Leads g mid us end → Leads g f (ts ++ us) end
leads_on g f mid end [] us is rest = subst (λ (e : Clusters). Leads g e us end) (sym is) rest
leads_on g f mid end (t ∷ ts) us (first, more) rest = (first, leads_on g (merged f t.merge) mid end ts us more rest)
