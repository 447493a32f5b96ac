mod PairOrder
mod PairPlaces
mod LabelPair
mod SomePairs
mod SidePairs
mod JointUses
mod BuiltPairs
