-- What is added at a turn to the open triples.
use Rattle.std.proofs.Common.{◌≡◌, Bool, true, false, List, ◌++◌, ◌∙◌, ap}
use Rattle.std.specs.Prelude.{◌↔◌, AllPairs, Contains, None, Some, not}
use Rattle.std.proofs.lemmas.List.Elements.{filter-append}
use Rattle.sk_base.specs.declared.Name.{Name}
use Rattle.sk_base.proofs.Members.{contains_filtered, filtered_from}
use Rattle.sk_base.proofs.Pairs.{pairs_filter}
use Rattle.sk_family.specs.declared.Merge.{Merge}
use Rattle.sk_open_triples.specs.declared.heir.Heir.{Heir}
use Rattle.sk_open_triples.specs.Avoiding.{avoiding, names_one_of}
use Rattle.sk_open_triples.specs.HandedOn.{IsAdded, IsOfHeirIn, IsTakenIn, IsToAdd}
use Rattle.sk_open_triples.specs.MergeOrder.{ComesFirst}

stays_from : (b : Bool) → not b ≡ true → b ≡ false
stays_from true h = absurd (cc)
stays_from false h = cc

-- what was added to the triples of an heir, once what names one of the gone is dropped
pub taken_by_heir : (heir : Heir) (gone : List Name) (found old mid new : List Merge) → IsAdded gone (IsOfHeirIn heir gone found old) old mid → new ≡ avoiding gone mid → IsTakenIn gone (IsToAdd (Some heir) gone found old) old new
taken_by_heir heir gone found old mid new added left = record {
  more = avoiding gone added.last;
  parts = left ∙ ap (λ ms. avoiding gone ms) added.parts ∙ filter-append (λ (m : Merge). not (names_one_of gone m)) added.rest added.last ∙ ap (λ ms. ms ++ avoiding gone added.last) added.left;
  in_order = pairs_filter ComesFirst (λ (m : Merge). not (names_one_of gone m)) added.last added.in_order;
  exactly = λ m. (
    (λ h. (
        let (m_in, avoids) = filtered_from (λ (n : Merge). not (names_one_of gone n)) added.last m h in
        let stays = stays_from (names_one_of gone m) avoids in
        (stays, (added.exactly m stays).0 m_in))),
    (λ (stays, is). contains_filtered (λ (n : Merge). not (names_one_of gone n)) added.last m ((added.exactly m stays).1 is) (ap not stays)),
  );
}

pub taken_anew : (gone : List Name) (found old mid ordered new : List Merge) → mid ≡ avoiding gone old → new ≡ mid ++ ordered → ((m : Merge) → Contains ordered m ↔ Contains found m) → AllPairs ComesFirst ordered
    → IsTakenIn gone (IsToAdd None gone found old) old new
taken_anew gone found old mid ordered new left new_is same order = record {
  more = ordered;
  parts = new_is ∙ ap (λ ms. ms ++ ordered) left;
  in_order = order;
  exactly = same;
}
