-- The parts of a pair, at a goal that shows one of them: what a lemma leaves to be found out is found out from the goal.
pub one_of : {A B : Type 0} → A × B → A
one_of p = p.0

pub other_of : {A B : Type 0} → A × B → B
other_of p = p.1
