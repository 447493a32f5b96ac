mod InnerRegions
